-- What is read as a message is its layout, and is written.
-- Assumes nothing.
use Prim.Native.Nat.{ℕ, zero, suc, ◌≤◌}
use mathlib.Core.Path.{◌≡◌, refl, sym, ap, subst, ◌∙◌}
use mathlib.Core.List.{List, ◌++◌}
use native.Mathlib.Omega.{arith}
use lib.Dec.{eqb, lit≤}
use lib.ListN.{length, drop, length-append, length-drop}
use Rattle.frame.specs.Elements.{Bytes}
use Rattle.message.specs.Number.{byte_at, word_at, long_at, bytes2}
use Rattle.message.specs.Meaning.{Meaning, refused, carrying, bare}
use Rattle.message.specs.Options.{option_bytes}
use Rattle.message.specs.ToModule.{Order, request_layout, request_refusal, address_bytes, order_layout, order_refusal}
use Rattle.message.specs.FromModule.{delivery_layout, delivery_refusal, notice_layout, notice_refusal}
use Rattle.message.specs.Setup.{state_byte}
use Rattle.message.specs.Claims.{EncodesRequest, requests, orders, deliveries, notices}
use Rattle.message.specs.Claims.{MessageIsSized, DataIsInside, WhatIsReadIsWritten, ReadingIsExact}
use Rattle.message.specs.declared.to_module.Address.{Address}
use Rattle.message.specs.declared.to_module.Address.TheVariants.{Plain, Extended as ExtendedAddress}
use Rattle.message.specs.declared.to_module.Request.{Request}
use Rattle.message.specs.declared.from_module.Delivery.{Delivery}
use Rattle.message.specs.declared.from_module.Notice.{Notice}
use Rattle.message.proofs.Lists.{bytes_drop, bytes_front, at_least, just, byte_next, fixed_next, word_next, long_next, zeros_next}
use Rattle.message.proofs.OptionStrings.{left_behind, all_groups, in_order, made_of, as_written, ends_inside}
use Rattle.message.proofs.Readings.{ToWay, simple as to-simple, changed, to_plain, to_extended_lem, settings as to-settings, commanded, Sent}
use Rattle.message.proofs.Readings.{to_way, to_sized, FromWay, simple as from-simple, failure, success, standard, remote, extended}
use Rattle.message.proofs.Readings.{acknowledged, information, failed, settings as from-settings, control, from_way, from_sized}

-- What reading gives is written, with its data.
abbrev ToWritten : List ℕ → Meaning Request Order → Type 0
ToWritten p (refused n) = Unit {0}
ToWritten p (carrying m start) = (request_refusal m (drop start p) ≡ 0) × (length (request_layout m (drop start p)) ≤ 256)
ToWritten p (bare m) = (order_refusal m ≡ 0) × (length (order_layout m) ≤ 256)

abbrev FromWritten : List ℕ → Meaning Delivery Notice → Type 0
FromWritten p (refused n) = Unit {0}
FromWritten p (carrying m start) = (delivery_refusal m (drop start p) ≡ 0) × (length (delivery_layout m (drop start p)) ≤ 256)
FromWritten p (bare m) = (notice_refusal m ≡ 0) × (length (notice_layout m) ≤ 256)

-- The payload is the layout of what reading gives, but for the order of options.
abbrev ToExact : List ℕ → Meaning Request Order → Type 0
ToExact p (refused n) = Unit {0}
ToExact p (carrying m start) = EncodesRequest p m (drop start p)
ToExact p (bare m) = p ≡ order_layout m

abbrev FromExact : List ℕ → Meaning Delivery Notice → Type 0
FromExact p (refused n) = Unit {0}
FromExact p (carrying m start) = p ≡ delivery_layout m (drop start p)
FromExact p (bare m) = p ≡ notice_layout m

-- The data begin inside the payload or at its end.
module _ {A B : Type 0} where
  abbrev Inside : List ℕ → Meaning A B → Type 0
  Inside p (refused n) = Unit {0}
  Inside p (carrying m start) = start ≤ length p
  Inside p (bare m) = Unit {0}

-- An extended message to the module with its data is no longer than the payload that is read as it.
no_longer : (p : List ℕ) (address : Address) (at : ℕ) {r : Meaning Request Order} →
    length (address_bytes address (byte_at p 2)) ≡ at → at ≤ length p → (s : Sent p address at r) →
    length (address_bytes address (byte_at p 2) ++ (option_bytes s.options ++ drop s.end p)) ≤ length p
no_longer p address at front long s =
    simp (length-append, length-drop) (omega (arith, front, s.encoded.ends, as_written s.encoded, ends_inside p at long s.encoded))

-- A payload of at most 256 bytes.
module _ (p : List ℕ) (most : length p ≤ 256) where
  to_written : {r : Meaning Request Order} → ToWay p r → ToWritten p r
  to_written (to-simple two plain low is) = subst (ToWritten p) is (rw (plain, low), omega (arith, length-drop 2 p))
  to_written (changed plain command long fixed zeros more is) = subst (ToWritten p) is (rw plain, lit≤ tt)
  to_written (to_plain plain command long s) =
      subst (ToWritten p) s.is
      (rw (plain, s.encoded.allowed), omega (arith, most, no_longer p (Plain (byte_at p 0)) 3 refl long s))
  to_written (to_extended_lem place command long allowed s) =
      subst (ToWritten p) s.is
      (rw (allowed, s.encoded.allowed), omega (arith, most, no_longer p (ExtendedAddress (long_at p 3)) 7 refl long s))
  to_written (to-settings two place command listed is) = subst (ToWritten p) is (rw listed, omega (arith, length-drop 2 p))
  to_written (commanded c place command long is) = subst (ToWritten p) is (refl, lit≤ tt)

  from_written : {r : Meaning Delivery Notice} → FromWay p r → FromWritten p r
  from_written (from-simple two plain low is) = subst (FromWritten p) is (rw (plain, low), omega (arith, length-drop 2 p))
  from_written (failure place command long result is) = subst (FromWritten p) is (refl, lit≤ tt)
  from_written (success place command long result is) = subst (FromWritten p) is (refl, lit≤ tt)
  from_written (standard plain command long fixed is) = subst (FromWritten p) is (rw plain, lit≤ tt)
  from_written (remote plain command long fixed more is) = subst (FromWritten p) is (rw plain, lit≤ tt)
  from_written (extended plain command long count is) = subst (FromWritten p) is (rw plain, omega (arith, length-drop 14 p))
  from_written (acknowledged place command long fixed is) = subst (FromWritten p) is (refl, lit≤ tt)
  from_written (information place command long is) = subst (FromWritten p) is (refl, lit≤ tt)
  from_written (failed place command long fixed is) = subst (FromWritten p) is (refl, lit≤ tt)
  from_written (from-settings two place command listed is) = subst (FromWritten p) is (rw listed, omega (arith, length-drop 2 p))
  from_written (control place command long fixed state is) = subst (FromWritten p) is (refl, lit≤ tt)

module _ (p : List ℕ) where
  to_inside : {r : Meaning Request Order} → ToWay p r → Inside p r
  to_inside (to-simple two plain low is) = subst (Inside p) is two
  to_inside (changed plain command long fixed zeros more is) = subst (Inside p) is tt
  to_inside (to_plain plain command long s) = subst (Inside p) s.is (ends_inside p 3 long s.encoded)
  to_inside (to_extended_lem place command long allowed s) = subst (Inside p) s.is (ends_inside p 7 long s.encoded)
  to_inside (to-settings two place command listed is) = subst (Inside p) is two
  to_inside (commanded c place command long is) = subst (Inside p) is tt

  from_inside : {r : Meaning Delivery Notice} → FromWay p r → Inside p r
  from_inside (from-simple two plain low is) = subst (Inside p) is two
  from_inside (failure place command long result is) = subst (Inside p) is tt
  from_inside (success place command long result is) = subst (Inside p) is tt
  from_inside (standard plain command long fixed is) = subst (Inside p) is tt
  from_inside (remote plain command long fixed more is) = subst (Inside p) is tt
  from_inside (extended plain command long count is) = subst (Inside p) is long
  from_inside (acknowledged place command long fixed is) = subst (Inside p) is tt
  from_inside (information place command long is) = subst (Inside p) is tt
  from_inside (failed place command long fixed is) = subst (Inside p) is tt
  from_inside (from-settings two place command listed is) = subst (Inside p) is two
  from_inside (control place command long fixed state is) = subst (Inside p) is tt

-- Behind its address, an extended message to the module is exact.
reordered : (p : List ℕ) → Bytes p → (address : Address) (at : ℕ) {r : Meaning Request Order} →
    p ≡ address_bytes address (byte_at p 2) ++ drop at p → Sent p address at r → ToExact p r
reordered p h address at front s =
    let split : drop at p ≡ s.encoded.string ++ drop s.end p = left_behind p at s.encoded in
    let string : Bytes s.encoded.string = bytes_front s.encoded.string (drop s.end p) (subst Bytes split (bytes_drop at p h)) in
    subst (ToExact p) s.is
    (record {
      groups = all_groups s.encoded;
      order = in_order s.encoded;
      bytes = front ∙ ap (λ l. address_bytes address (byte_at p 2) ++ l) (split ∙ ap (λ l. l ++ drop s.end p) (made_of s.encoded string));
    })

-- A state of 0 or 1 is the byte of what it says.
state_is : (b : ℕ) → b ≤ 1 → b ≡ state_byte (eqb b 1)
state_is zero h = refl
state_is (suc zero) h = refl
state_is (suc (suc b)) h = absurd (omega arith)

module _ (p : List ℕ) (h : Bytes p) where
  to_exact : {r : Meaning Request Order} → ToWay p r → ToExact p r
  to_exact (to-simple two plain low is) = subst (ToExact p) is (at_least p 2 two)
  to_exact (changed plain command long fixed zeros more is) =
      subst (ToExact p) is
      (just p 15 long
      ∙ byte_next p h 0 (fixed_next p h 1 command (fixed_next p h 2 fixed
      (word_next p h 3 (word_next p h 5 (zeros_next p h 7 zeros (zeros_next p h 11 more refl)))))))
  to_exact (to_plain plain command long s) =
      reordered p h (Plain (byte_at p 0)) 3 (at_least p 3 long ∙ byte_next p h 0 (fixed_next p h 1 command refl)) s
  to_exact (to_extended_lem place command long allowed s) =
      reordered p h (ExtendedAddress (long_at p 3)) 7
      (at_least p 7 long ∙ fixed_next p h 0 place (fixed_next p h 1 command (byte_next p h 2 (long_next p h 3 refl)))) s
  to_exact (to-settings two place command listed is) =
      subst (ToExact p) is (at_least p 2 two ∙ fixed_next p h 0 place (fixed_next p h 1 command refl))
  to_exact (commanded c place command long is) = subst (ToExact p) is (just p 2 long ∙ fixed_next p h 0 place (fixed_next p h 1 command refl))

  from_exact : {r : Meaning Delivery Notice} → FromWay p r → FromExact p r
  from_exact (from-simple two plain low is) = subst (FromExact p) is (at_least p 2 two)
  from_exact (failure place command long result is) =
      subst (FromExact p) is
      (just p 4 long ∙ fixed_next p h 0 place (fixed_next p h 1 command (byte_next p h 2 (fixed_next p h 3 result refl))))
  from_exact (success place command long result is) =
      subst (FromExact p) is
      (just p 4 long ∙ fixed_next p h 0 place (fixed_next p h 1 command (byte_next p h 2 (fixed_next p h 3 result refl))))
  from_exact (standard plain command long fixed is) =
      subst (FromExact p) is
      (just p 23 long
      ∙ byte_next p h 0 (fixed_next p h 1 command (byte_next p h 2 (fixed_next p h 3 fixed (byte_next p h 4
      (long_next p h 5 (byte_next p h 9 (word_next p h 10 (byte_next p h 12 (word_next p h 13 refl))))))))))
  from_exact (remote plain command long fixed more is) =
      subst (FromExact p) is
      (just p 20 long
      ∙ byte_next p h 0 (fixed_next p h 1 command (fixed_next p h 2 fixed (fixed_next p h 3 more (byte_next p h 4
      (long_next p h 5 (byte_next p h 9 (word_next p h 10 (byte_next p h 12
      (word_next p h 13 (word_next p h 15 (word_next p h 17 refl))))))))))))
  from_exact (extended plain command long count is) =
      let counted : word_at p 12 ≡ length (drop 14 p) = count ∙ sym (length-drop 14 p) in
      subst (FromExact p) is
      (at_least p 14 long
      ∙ byte_next p h 0 (fixed_next p h 1 command (byte_next p h 2 (long_next p h 3 (long_next p h 7 (byte_next p h 11
      (word_next p h 12 refl ∙ ap (λ n. bytes2 n ++ drop 14 p) counted)))))))
  from_exact (acknowledged place command long fixed is) =
      subst (FromExact p) is (just p 3 long ∙ fixed_next p h 0 place (fixed_next p h 1 command (fixed_next p h 2 fixed refl)))
  from_exact (information place command long is) =
      subst (FromExact p) is
      (just p 17 long
      ∙ fixed_next p h 0 place (fixed_next p h 1 command (long_next p h 2 (long_next p h 6 (byte_next p h 10 (long_next p h 11 refl))))))
  from_exact (failed place command long fixed is) =
      subst (FromExact p) is (just p 3 long ∙ fixed_next p h 0 place (fixed_next p h 1 command (fixed_next p h 2 fixed refl)))
  from_exact (from-settings two place command listed is) =
      subst (FromExact p) is (at_least p 2 two ∙ fixed_next p h 0 place (fixed_next p h 1 command refl))
  from_exact (control place command long fixed state is) =
      subst (FromExact p) is
      (just p 4 long
      ∙ fixed_next p h 0 place (fixed_next p h 1 command (fixed_next p h 2 fixed (fixed_next p h 3 (state_is (byte_at p 3) state) refl))))

pub message_is_sized : MessageIsSized
message_is_sized requests p m r = to_sized p tt r.is
message_is_sized orders p m e = to_sized p tt e
message_is_sized deliveries p m r = from_sized p tt r.is
message_is_sized notices p m e = from_sized p tt e

pub data_is_inside : DataIsInside
data_is_inside =
    record {
      request = λ p m start e. to_inside p (to_way p tt e);
      delivery = λ p m start e. from_inside p (from_way p tt e);
    }

pub what_is_read_is_written : WhatIsReadIsWritten
what_is_read_is_written requests p m r =
    subst (λ dat. (request_refusal m.0 dat ≡ 0) × (length (request_layout m.0 dat) ≤ 256)) r.part
    (to_written p (to_sized p tt r.is).1 (to_way p tt r.is))
what_is_read_is_written orders p m e = to_written p (to_sized p tt e).1 (to_way p tt e)
what_is_read_is_written deliveries p m r =
    subst (λ dat. (delivery_refusal m.0 dat ≡ 0) × (length (delivery_layout m.0 dat) ≤ 256)) r.part
    (from_written p (from_sized p tt r.is).1 (from_way p tt r.is))
what_is_read_is_written notices p m e = from_written p (from_sized p tt e).1 (from_way p tt e)

pub reading_is_exact : ReadingIsExact
reading_is_exact requests p m h r = subst (λ dat. EncodesRequest p m.0 dat) r.part (to_exact p h (to_way p tt r.is))
reading_is_exact orders p m h e = to_exact p h (to_way p tt e)
reading_is_exact deliveries p m h r = subst (λ dat. p ≡ delivery_layout m.0 dat) r.part (from_exact p h (from_way p tt r.is))
reading_is_exact notices p m h e = from_exact p h (from_way p tt e)
