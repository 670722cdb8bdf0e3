-- Options are read in any order: what is read so far is the options restricted to those whose groups are read, and each group adds its own.
-- Assumes nothing.
use Rattle.std.specs.Prelude.{None}
use Prim.Native.Nat.{ℕ}
use native.Mathlib.Omega.{arith}
use mathlib.Core.Path.{◌≡◌, refl, sym, ap, subst, fun_ext, ◌∙◌}
use mathlib.Core.List.{List, [], ◌∷◌, map, nil≢cons, cons≢nil, head-eq_of_cons-eq, tail-eq_of_cons-eq}
use mathlib.Core.List.Permᴰ.{cons}
use mathlib.Core.List.Permᴰ.{nil}
use mathlib.Core.List.Permᴰ.{swap}
use mathlib.Core.List.{Permᴰ as Permutation}
use mathlib.Core.List.Permᴰ
use mathlib.Core.List.Permᴰ.{trans}
use mathlib.Core.Bool.{Bool, true, false, cond, ◌&&◌, ◌||◌, true≢false}
use lib.Dec.{eqb}
use lib.ListN.{get_or}
use borrow.Author.Tests.{eqb-false, ne_eqb}
use Rattle.message.specs.Options.{no_options, option_bytes, option_groups, option_string, flag_bytes, retry_bytes, word_bytes, retry_allowed}
use Rattle.message.specs.Claims.{OptionsFit}
use Rattle.message.specs.AnyOrder.{sheet_options, sheet_groups, AnyOrderIsRead}
use Rattle.message.specs.declared.options.Options.{Options}
use Rattle.message.proofs.OptionStrings.{at_end}
use Rattle.message.proofs.OptionRoundTrip.{with, Takes, Ends, and_then}
use Rattle.message.proofs.OptionRoundTrip as step
use Rattle.message.proofs.MessageRoundTrip.{transmission_back}

-- The options by name, and their numbers.
data Key : Type 0 where
  ack retries lower upper interval parallel silent sleep : Key

abbrev number : Key → ℕ
number ack = 1
number retries = 2
number lower = 3
number upper = 4
number interval = 5
number parallel = 6
number silent = 7
number sleep = 8

-- All of them in ascending order.
abbrev keys : List Key
keys = ack ∷ retries ∷ lower ∷ upper ∷ interval ∷ parallel ∷ silent ∷ sleep ∷ []

-- The bytes of one option.
abbrev group : Options → Key → List ℕ
group o ack = flag_bytes 0x01 o.mac_ack
group o retries = retry_bytes o.retries
group o lower = word_bytes 0x03 o.lower_delay
group o upper = word_bytes 0x04 o.upper_delay
group o interval = word_bytes 0x05 o.interval
group o parallel = flag_bytes 0x06 o.parallel
group o silent = flag_bytes 0x07 o.no_response
group o sleep = flag_bytes 0x08 o.sleep

-- Which groups are read: none, and one more.
abbrev Mask : Type 0
Mask = Key → Bool

abbrev nothing : Mask
nothing k = false

abbrev add : Key → Mask → Mask
add k m j = eqb (number j) (number k) || m j

-- The options restricted to the groups that are read.
abbrev part : Options → Mask → Options
part o m =
    with
    (m ack && o.mac_ack)
    (cond (m retries) o.retries None)
    (cond (m lower) o.lower_delay None)
    (cond (m upper) o.upper_delay None)
    (cond (m interval) o.interval None)
    (m parallel && o.parallel)
    (m silent && o.no_response)
    (m sleep && o.sleep)

-- None of the keys is read yet, and none is there twice.
abbrev New : Mask → List Key → Type 0
New m [] = Unit {0}
New m (k ∷ ks) = (m k ≡ false) × New (add k m) ks

-- What is read behind the groups of the keys.
abbrev after : Mask → List Key → Mask
after m [] = m
after m (k ∷ ks) = after (add k m) ks

module _ (o : Options) (fits : OptionsFit o) (allowed : retry_allowed o.retries ≡ true) where
  -- A group that is not yet read adds its option.
  takes : (m : Mask) (k : Key) → m k ≡ false → Takes (part o m) (group o k) (part o (add k m))
  takes m ack h = rw h (step.ack o.mac_ack)
  takes m retries h = rw h (step.retry o.retries allowed)
  takes m lower h = rw h (step.lower o.lower_delay fits.1)
  takes m upper h = rw h (step.upper o.upper_delay fits.2)
  takes m interval h = rw h (step.interval o.interval fits.3)
  takes m parallel h = rw h (step.parallel o.parallel)
  takes m silent h = rw h (step.silent o.no_response)
  takes m sleep h = rw h (step.sleep o.sleep)

  -- The groups of new keys and FF are read as the options so far with those of the keys.
  ends : (m : Mask) (ks : List Key) → New m ks → Ends (part o m) (option_string (map (group o) ks)) (part o (after m ks))
  ends m [] new = record { reads = at_end (part o m) }
  ends m (k ∷ ks) new = and_then (takes m k new.0) (ends (add k m) ks new.1)

-- Two keys may be added in either order.
or_swap : (a b c : Bool) → a || (b || c) ≡ b || (a || c)
or_swap true true c = refl
or_swap true false c = refl
or_swap false true c = refl
or_swap false false c = refl

add_swap : (j k : Key) (m : Mask) → add j (add k m) ≡ add k (add j m)
add_swap j k m = fun_ext (λ x. or_swap (eqb (number x) (number j)) (eqb (number x) (number k)) (m x))

-- Where it is false that one of two tests holds, both are false.
neither : (a b : Bool) → a || b ≡ false → (a ≡ false) × (b ≡ false)
neither true b e = absurd (true≢false e)
neither false b e = (refl, e)

-- And so two new keys may change places.
new_swap : (m : Mask) (j k : Key) (ks : List Key) → New m (j ∷ k ∷ ks) → New m (k ∷ j ∷ ks)
new_swap m j k ks (first, (second, rest)) =
    let fresh : (eqb (number k) (number j) ≡ false) × (m k ≡ false) = neither (eqb (number k) (number j)) (m k) second in
    let differ : number j ≡ number k → ⊥ = λ e. eqb-false (number k) (number j) fresh.0 (sym e) in
    let other : eqb (number j) (number k) ≡ false = ne_eqb (number j) (number k) differ in
    (fresh.1, (rw other first, subst (λ (n : Mask). New n ks) (add_swap k j m) rest))

-- The groups gs are those of the keys ks in some order: keys that are new where ks are, and that add the same.
record Arranged (o : Options) (ks : List Key) (gs : List (List ℕ)) : Type 0 where
  order : List Key
  groups : gs ≡ map (group o) order
  new : (m : Mask) → New m ks → New m order
  same : (m : Mask) → after m ks ≡ after m order

module _ (o : Options) where
  -- A permutation of the groups of keys is the groups of those keys in some order.
  arranged : {gs hs : List (List ℕ)} → Permutation gs hs → (ks : List Key) → gs ≡ map (group o) ks → Arranged o ks hs
  arranged nil [] e = record { order = []; groups = refl; new = λ m n. n; same = λ m. refl }
  arranged nil (k ∷ ks) e = absurd (nil≢cons e)
  arranged (cons g d) [] e = absurd (cons≢nil e)
  arranged (cons g d) (k ∷ ks) e =
      let r : Arranged o ks _ = arranged d ks (tail-eq_of_cons-eq e) in
      record {
        order = k ∷ r.order;
        groups = cc (r.groups, head-eq_of_cons-eq e, g);
        new = λ m n. (n.0, r.new (add k m) n.1);
        same = λ m. r.same (add k m);
      }
  arranged (swap g h) [] e = absurd (cons≢nil e)
  arranged (swap g h) (j ∷ []) e = absurd (cons≢nil (tail-eq_of_cons-eq e))
  arranged (swap g h) (j ∷ k ∷ ks) e =
      let rest : _ = tail-eq_of_cons-eq e in
      record {
        order = k ∷ j ∷ ks;
        groups = cc (head-eq_of_cons-eq e, head-eq_of_cons-eq rest, tail-eq_of_cons-eq rest, g, h);
        new = λ m. new_swap m j k ks;
        same = λ m. ap (λ (n : Mask). after n ks) (add_swap k j m);
      }
  arranged (trans d c) ks e =
      let r : Arranged o ks _ = arranged d ks e in
      let q : Arranged o r.order _ = arranged c r.order r.groups in
      record {
        order = q.order;
        groups = q.groups;
        new = λ m n. q.new m (r.new m n);
        same = λ m. r.same m ∙ q.same m;
      }

-- All options are new at the start.
all_new : New nothing keys
all_new = (refl, (refl, (refl, (refl, (refl, (refl, (refl, (refl, _))))))))

module _ (o : Options) (fits : OptionsFit o) (allowed : retry_allowed o.retries ≡ true) where
  -- A string of the groups in any order is read as the options.
  any_order : (gs : List (List ℕ)) → Permutation gs (option_groups o) → Ends no_options (option_string gs) o
  any_order gs d =
      let r : Arranged o keys gs = arranged o (Permᴰ.symm d) keys refl in
      let all : Ends no_options (option_string (map (group o) r.order)) (part o (after nothing r.order)) =
      ends o fits allowed nothing r.order (r.new nothing all_new) in
      let read : Ends no_options (option_string (map (group o) r.order)) o =
      subst (λ (m : Mask). Ends no_options (option_string (map (group o) r.order)) (part o m)) (sym (r.same nothing)) all in
      subst (λ (hs : List (List ℕ)). Ends no_options (option_string hs) o) (sym r.groups) read

-- The groups of sheet 001, moved to their places one by one: 02, the empty group of 03, then 05 in front of 06.
sheet : Permutation sheet_groups (option_groups sheet_options)
sheet =
    let four : List ℕ = 0x04 ∷ 0x08 ∷ 0x00 ∷ [] in
    let five : List ℕ = 0x05 ∷ 0x06 ∷ 0x00 ∷ [] in
    let six : List ℕ = 0x06 ∷ [] in
    cons refl
    (trans (Permᴰ.middle (0x02 ∷ 0x85 ∷ []) (four ∷ six ∷ []) (five ∷ [] ∷ [] ∷ [] ∷ []))
    (cons refl
    (trans (Permᴰ.middle [] (four ∷ six ∷ five ∷ []) ([] ∷ [] ∷ []))
    (cons refl
    (cons refl
    (swap refl refl))))))

pub any_order_is_read : AnyOrderIsRead
unfolding option_bytes
any_order_is_read =
    record {
      options = λ o gs fits allowed d. (any_order o fits allowed gs d).reads;
      message = λ m gs dat fits e d.
          transmission_back m (option_string gs) dat fits e (λ allowed. any_order m.options fits.2 allowed gs d);
      another = (sheet, λ e. let z : ◌≡◌ {A = ℕ} 4 2 = ap (λ (gs : List (List ℕ)). get_or (get_or gs 1 []) 0 0) e in omega arith);
    }
