-- Behind the public calls: what answer.rt makes of a scan.
use Rattle.std.specs.Prelude.{ℕ, ◌+◌, ◌-◌, ◌≤◌, ◌≡◌, List, [], ◌∷◌, Bool, false, length, drop}
use Rattle.frame.specs.Checks.{cut, frame}
use Rattle.frame.specs.Framing.{judge, is_open}
use Rattle.frame.specs.Rule.{output}
use Rattle.reader.specs.Reader.{Called, called, took_first, judged_held, Values, fed_values_of, called_values}
use Rattle.reader.specs.View.{part}
use Rattle.reader.specs.Scan.{Stop, found, undecided, passed, Scanned, scan_from}
use Rattle.frame.specs.declared.framing.Format.{Format}
use Rattle.reader.specs.declared.answer.FeedAnswer.{FeedAnswer}
use Rattle.reader.specs.declared.answer.Before.{Before}
use Rattle.reader.specs.declared.answer.Kept.{Kept}

-- What was there before a scan: `base` bytes of the slice were held, `noise` bytes were settled, and the chunk has `size` bytes.
abbrev pub before_scan : ℕ → ℕ → ℕ → Before
before_scan base noise size = record { base = base; noise = noise; size = size }

-- The values of a call that judged so many bytes.
abbrev pub values_at : Called → ℕ → Values
values_at c judged = called_values c judged c.out.frames

-- Where an answer stands for a call, r stands for the call that took n bytes more, before the others.
abbrev pub TookFirst : ℕ → FeedAnswer → FeedAnswer → Type 0
TookFirst n answer r = (c : Called) (total : ℕ) → fed_values_of answer ≡ values_at c total → fed_values_of r ≡ values_at (took_first n c) total

-- Where an answer stands for a call that holds `count` bytes afterwards, as many of them as r were judged at the first.
abbrev pub HeldSo : FeedAnswer → ℕ → ℕ → Type 0
HeldSo answer count r =
    (c : Called) (total : ℕ) → fed_values_of answer ≡ values_at c total → count ≡ length c.held → r ≡ judged_held c.out.frames c.held

-- What a scan of w that stopped so gives as a call.
abbrev pub called_as : Format → Stop → Before → List ℕ → ℕ → ℕ → Called
called_as m (found used p) before w place reach =
    called (reach - before.base) (output (p ∷ []) (before.noise + place)) (reach - place) (part (place + used) reach w) (is_open m used (drop place w))
called_as m undecided before w place reach = called before.size (output [] (before.noise + place)) 0 (drop place w) false
called_as m passed before w place reach = called before.size (output [] (before.noise + place)) 0 [] false

abbrev pub called_by : Format → Before → List ℕ → Scanned → Called
called_by m before w x = called_as m x.stop before w x.place x.reach

-- The call over all of w, whose first `base` bytes were held, where bytes up to `reach` were judged before and `noise` bytes before w were settled.
abbrev pub scan_whole : Format → ℕ → ℕ → ℕ → List ℕ → Called
scan_whole f base noise reach w = called_by f (before_scan base noise (length w - base)) w (scan_from (judge f) (length w) 0 reach w)

-- A scan's result from which an answer can be made.
abbrev pub Usable : Stop → Format → List ℕ → ℕ → ℕ → Type 0
Usable (found used p) f w place reach = (judge f (drop place w) ≡ frame used p) × (place + used ≤ reach) × (reach ≤ place + 517)
Usable undecided f w place reach = judge f (drop place w) ≡ cut
Usable passed f w place reach = Unit {0}

pub record Answerable (f : Format) (w : List ℕ) (x : Scanned) (before : Before) : Type 0 where
  pub usable : Usable x.stop f w x.place x.reach
  pub inside : x.place ≤ length w
  pub from : before.base ≤ x.reach
  pub there : x.reach ≤ length w
  pub small : before.noise ≤ 517

-- An answer, and the part that is kept with it.
abbrev pub kept_as : FeedAnswer → ℕ → ℕ → Bool → Kept
kept_as answer from end follows = record { answer = answer; from = from; end = end; follows = follows }

-- Where the kept part of w ends, by where the scan stopped.
abbrev pub kept_end : Stop → List ℕ → ℕ → ℕ
kept_end (found used p) w reach = reach
kept_end undecided w reach = length w
kept_end passed w reach = length w

-- The answer that is made of a scan of w, where the call judged `total` bytes, and the part of w that is held afterwards. The buffer is another function's.
pub record Keeps (m : Format) (before : Before) (w : List ℕ) (x : Scanned) (total : ℕ) (k : Kept) : Type 0 where
  pub values : fed_values_of k.answer ≡ values_at (called_by m before w x) total
  pub held : part k.from k.end w ≡ (called_by m before w x).held
  pub follows : k.follows ≡ (called_by m before w x).follows
  pub inside : k.from ≤ k.end
  pub there : k.end ≤ length w
  pub most : k.end ≤ k.from + 517
  pub ends : k.end ≡ kept_end x.stop w x.reach
