-- Laws on the room that lines take: a line has no more than two bytes for each of its payload's, and twelve.
-- Assumes nothing.
use Prim.Native.Nat.{ℕ, ◌+◌, ◌-◌, ◌*◌, ◌≤◌}
use native.Mathlib.Omega.{arith}
use mathlib.Core.Path.{◌≡◌, refl, sym}
use mathlib.Core.List.{List, [], ◌∷◌, map}
use mathlib.Core.Bool.{Bool, true, false, cond, ◌&&◌}
use borrow.Author.Tests.{eqb-true, leb-true}
use lib.Dec.{leb, ltb, eqb}
use lib.ListN.{length, take, drop, length-append, length-drop}
use lib.Seq.{take-length}
use Rattle.frame.specs.Hex.{hex, sum_of}
use Rattle.reader.specs.Draining.{overhead}
use Rattle.frame.specs.declared.framing.Footer.TheVariants.{Optional, Required}
use Rattle.frame.specs.declared.framing.Ending.TheVariants.{CrLf, Any}
use Rattle.frame.specs.declared.framing.Format.{Format}
use Rattle.frame.specs.declared.framing.Format.TheVariants.{Binary, Ascii}
use Rattle.message.specs.Address.{is_plain}
use Rattle.message.specs.Number.{byte_at, word_at}
use Rattle.settings.specs.List.{is_list}
use Rattle.message.specs.FromModule.{read_from_module, from_itself, response_meaning, ack_meaning, information_meaning, settings_meaning, control_meaning}
use Rattle.message.specs.FromModule.{reception_meaning, standard_meaning, remote_meaning, status_meaning, sender_meaning}
use Rattle.message.specs.Meaning.{Meaning, refused, carrying, bare}
use Rattle.message.specs.Claims.{deliveries, notices}
use Rattle.message.specs.declared.setup.SetupReport.{SetupReport}
use Rattle.message.specs.declared.simple.Simple.{Simple}
use Rattle.message.specs.declared.status.StandardStatus.{StandardStatus}
use Rattle.message.specs.declared.status.RemoteStatus.{RemoteStatus}
use Rattle.message.specs.declared.from_module.Reception.{Reception}
use Rattle.message.specs.declared.from_module.Response.{Response}
use Rattle.message.specs.declared.from_module.Outcome.{Outcome}
use Rattle.message.specs.declared.from_module.Outcome.TheVariants.{Failure, Success}
use Rattle.message.specs.declared.from_module.Delivery.{Delivery}
use Rattle.message.specs.declared.from_module.Delivery.TheVariants.{Simple as SimpleDelivery, Extended as ExtendedDelivery, Settings}
use Rattle.message.specs.declared.from_module.Notice.{Notice}
use Rattle.message.specs.declared.from_module.Notice.TheVariants.{Response as IsResponse, Standard, Remote, Setup}
use Rattle.listing.specs.Line.{data_field, decimal, simple_line, reception_line, response_line, standard_line, remote_line, refusal_line, meaning_line}
use Rattle.listing.specs.Line.{settings_line, line_of, lines_of}
use Rattle.message.proofs.Theorems.{message_is_sized, data_is_inside}

-- Two characters for each byte.
length_hex : (s : List ℕ) → length (hex s) ≡ 2 * length s
length_hex [] = refl
length_hex (b ∷ s) = omega (arith, length_hex s)

-- The field of data has two characters for each byte and a space, or two.
data_short : (s : List ℕ) → length (data_field s) ≤ 2 * length s + 2
data_short [] = omega arith
data_short (b ∷ s) = omega (arith, length_hex s)

-- What a payload means has a short line.
pub record Fits (p : List ℕ) (m : Meaning Delivery Notice) : Type 0 where
  pub short : length (meaning_line p m) ≤ 2 * length p + 11

-- What holds whichever way a test goes.
either :
    (p : List ℕ) (q : Bool) (a b : Meaning Delivery Notice) → (q ≡ true → Fits p a) → (q ≡ false → Fits p b) → Fits p (cond q a b)
either p true a b x y = x refl
either p false a b x y = y refl

-- A refusal's line.
module _ (p : List ℕ) where
  no_7 : Fits p (refused 7)
  unfolding refusal_line decimal
  no_7 = record { short = omega arith }

  no_8 : Fits p (refused 8)
  unfolding refusal_line decimal
  no_8 = record { short = omega arith }

  no_9 : Fits p (refused 9)
  unfolding refusal_line decimal
  no_9 = record { short = omega arith }

  no_11 : Fits p (refused 11)
  unfolding refusal_line decimal
  no_11 = record { short = omega arith }

  no_12 : Fits p (refused 12)
  unfolding refusal_line decimal
  no_12 = record { short = omega arith }

  no_17 : Fits p (refused 17)
  unfolding refusal_line decimal
  no_17 = record { short = omega arith }

-- The line of each kind, by the length that its payload has at least.
module _ (p : List ℕ) where
  response_line_lem : (m : Response) → length p ≡ 4 → Fits p (bare (IsResponse m))
  unfolding response_line
  response_line_lem m e = record { short = either_way m.outcome }
    where
      either_way : (o : Outcome) → length (response_line (record { id = m.id; outcome = o })) ≤ 2 * length p + 11
      either_way Failure = omega arith
      either_way Success = omega arith

  standard_line_lem : (m : StandardStatus) → length p ≡ 23 → Fits p (bare (Standard m))
  unfolding standard_line
  standard_line_lem m e = record { short = omega arith }

  remote_line_lem : (m : RemoteStatus) → length p ≡ 20 → Fits p (bare (Remote m))
  unfolding remote_line
  remote_line_lem m e = record { short = omega arith }

  simple_line_lem : (m : Simple) → 2 ≤ length p → Fits p (carrying (SimpleDelivery m) 2)
  unfolding simple_line
  simple_line_lem m long = record { short = omega (arith, data_short (drop 2 p), length-drop 2 p) }

  reception_line_lem : (m : Reception) → 14 ≤ length p → Fits p (carrying (ExtendedDelivery m) 14)
  unfolding reception_line
  reception_line_lem m long = record { short = omega (arith, data_short (drop 14 p), length-drop 14 p) }

  settings_short : 2 ≤ length p → length (settings_line p) ≤ 2 * length p + 11
  unfolding settings_line
  settings_short long = omega (arith, data_short (drop 2 p), length-drop 2 p)

  settings_line_lem : 2 ≤ length p → Fits p (carrying Settings 2)
  settings_line_lem long = record { short = settings_short long }

  setup_line : (m : SetupReport) → 2 ≤ length p → Fits p (bare (Setup m))
  setup_line m long = record { short = settings_short long }

  response_fits : Fits p (response_meaning p)
  unfolding response_meaning
  response_fits =
      either p (eqb (length p) 4) _ _
      (λ e. let four : length p ≡ 4 = eqb-true (length p) 4 e in
      either p (eqb (byte_at p 3) 0) _ _ (λ _. response_line_lem _ four)
      (λ _. either p (eqb (byte_at p 3) 1) _ _ (λ _. response_line_lem _ four) (λ _. no_11 p)))
      (λ _. no_7 p)

  -- What the module says of itself when it is set up.
  ack_fits : 2 ≤ length p → Fits p (ack_meaning p)
  unfolding ack_meaning
  ack_fits long =
      either p (eqb (length p) 3) _ _
      (λ _. either p (eqb (byte_at p 2) 0x01) _ _ (λ _. setup_line _ long) (λ _. no_11 p))
      (λ _. no_7 p)

  information_fits : 2 ≤ length p → Fits p (information_meaning p)
  unfolding information_meaning
  information_fits long = either p (eqb (length p) 17) _ _ (λ _. setup_line _ long) (λ _. no_7 p)

  settings_fits : 2 ≤ length p → Fits p (settings_meaning p)
  unfolding settings_meaning
  settings_fits long =
      either p (eqb (length p) 3 && eqb (byte_at p 2) 0xFF) _ _
      (λ _. setup_line _ long)
      (λ _. either p (is_list (drop 2 p)) _ _ (λ _. settings_line_lem long) (λ _. no_17 p))

  control_fits : 2 ≤ length p → Fits p (control_meaning p)
  unfolding control_meaning
  control_fits long =
      either p (eqb (length p) 4) _ _
      (λ _. either p (eqb (byte_at p 2) 0x11 && leb (byte_at p 3) 1) _ _ (λ _. setup_line _ long) (λ _. no_11 p))
      (λ _. no_7 p)

  itself_fits : 2 ≤ length p → Fits p (from_itself p)
  unfolding from_itself
  itself_fits long =
      either p (eqb (byte_at p 1) 0xA1) _ _
      (λ _. response_fits)
      (λ _. either p (eqb (byte_at p 1) 0xF0) _ _
      (λ _. ack_fits long)
      (λ _. either p (eqb (byte_at p 1) 0xF1) _ _
      (λ _. information_fits long)
      (λ _. either p (eqb (byte_at p 1) 0xF3) _ _
      (λ _. settings_fits long)
      (λ _. either p (eqb (byte_at p 1) 0xF8) _ _ (λ _. control_fits long) (λ _. no_9 p)))))

  reception_fits : Fits p (reception_meaning p)
  unfolding reception_meaning
  reception_fits =
      either p (leb 14 (length p)) _ _
      (λ e. either p (eqb (word_at p 12) (length p - 14)) _ _ (λ _. reception_line_lem _ (leb-true 14 (length p) e)) (λ _. no_12 p))
      (λ _. no_7 p)

  status_fits : Fits p (status_meaning p)
  unfolding status_meaning standard_meaning remote_meaning
  status_fits =
      either p (eqb (length p) 23) _ _
      (λ e. either p (eqb (byte_at p 3) 0x01) _ _ (λ _. standard_line_lem _ (eqb-true (length p) 23 e)) (λ _. no_11 p))
      (λ _. either p (eqb (length p) 20) _ _
      (λ e. either p (eqb (byte_at p 2) 0x0F && eqb (byte_at p 3) 0x01) _ _ (λ _. remote_line_lem _ (eqb-true (length p) 20 e)) (λ _. no_11 p))
      (λ _. no_7 p))

  sender_fits : 2 ≤ length p → Fits p (sender_meaning p)
  unfolding sender_meaning
  sender_fits long =
      either p (ltb (byte_at p 1) 0x80) _ _
      (λ _. simple_line_lem _ long)
      (λ _. either p (eqb (byte_at p 1) 0x81) _ _
      (λ _. status_fits)
      (λ _. either p (eqb (byte_at p 1) 0xA0) _ _ (λ _. reception_fits) (λ _. no_9 p)))

  both : (a b : Bool) → (a && b) ≡ true → a ≡ true
  both true b e = refl
  both false b e = e

  pub fits : Fits p (read_from_module p)
  unfolding read_from_module
  fits =
      either p (leb 2 (length p) && leb (length p) 256) _ _
      (λ e. let long : 2 ≤ length p = leb-true 2 (length p) (both _ _ e) in
      either p (eqb (byte_at p 0) 0xDB) _ _
      (λ _. itself_fits long)
      (λ _. either p (is_plain (byte_at p 0)) _ _ (λ _. sender_fits long) (λ _. no_8 p)))
      (λ _. no_7 p)

-- A line has no more than two bytes for each of its payload's, and twelve.
pub line_short : (p : List ℕ) → length (line_of p) ≤ 2 * length p + 12
unfolding line_of
line_short p = simp length-append (omega (arith, (fits p).short))

-- A frame has at least 5 bytes besides its payload.
overhead_least : (m : Format) → 5 ≤ overhead m
overhead_least (Binary Optional) = omega arith
overhead_least (Binary Required) = omega arith
overhead_least (Ascii CrLf) = omega arith
overhead_least (Ascii Any) = omega arith

-- So all lines together have no more than three bytes for each of their frames'.
pub lines_short : (m : Format) (ps : List (List ℕ)) → length (lines_of ps) ≤ 3 * sum_of (map (λ p. length p + overhead m) ps)
lines_short m [] = omega arith
lines_short m (p ∷ ps) = simp length-append (omega (arith, overhead_least m, line_short p, lines_short m ps))

-- The data of a message begin within its payload.
pub start_inside : (p : List ℕ) {m : Delivery} {start : ℕ} → carrying m start ≡ read_from_module p → start ≤ length p
start_inside p {m} {start} e = data_is_inside.delivery p m start (sym e)

-- A message has 2 bytes or more.
pub delivery_long : (p : List ℕ) {m : Delivery} {start : ℕ} → carrying m start ≡ read_from_module p → 2 ≤ length p
delivery_long p {m} {start} e = (message_is_sized deliveries p (m, drop start p) (record { start = start; is = sym e; part = refl })).0

pub notice_long : (p : List ℕ) {m : Notice} → bare m ≡ read_from_module p → 2 ≤ length p
notice_long p {m} e = (message_is_sized notices p m (sym e)).0

-- The bytes from a place on are all that there are.
pub rest_is : (p : List ℕ) (start : ℕ) → start ≤ length p → take (length p - start) (drop start p) ≡ drop start p
rest_is p start h = rw (← length-drop start p) (take-length (drop start p))
