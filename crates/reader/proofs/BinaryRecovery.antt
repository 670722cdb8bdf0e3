-- Good binary frames behind damage: those whose first byte lies in no frame that begins in the damage are handed out.
-- Assumes nothing.
use Prim.Native.Nat.{ℕ, zero, suc, pred, ◌+◌, ◌-◌, ◌≤◌, ◌<◌, zero-le, suc-le-suc}
use native.Mathlib.Nat.{zero-add, add-zero, suc-add, add-suc, add_assoc, le_of_suc-le-suc, not-suc-le-zero, le_refl, le_trans}
use native.Mathlib.Omega.{arith}
use mathlib.Core.Path.{◌≡◌, refl, sym, ap, ap₂, ◌∙◌, subst}
use mathlib.Core.List.Memᴰ
use mathlib.Core.List.{List, [], ◌∷◌, ◌++◌, Memᴰ, flatten}
use mathlib.Core.Bool.{Bool, true, false, Bool-discrete, not, ◌&&◌, and-true, and-false, and_comm}
use mathlib.Core.Logic.{⊎_elim, ite}
use borrow.Author.Tests.{le-leb, lt-leb, le-ltb, lt-ltb}
use lib.Dec.{leb, ltb}
use lib.ListN.{length, get_or, drop, length-append, length-drop}
use lib.Seq.{drop-append-le, drop-append-add, get_or-append-add, get_or-drop}
use Rattle.frame.specs.Checks.{Verdict, cut, refused, frame, payload_in}
use Rattle.frame.specs.Framing.{read}
use Rattle.frame.specs.Rule.{Output, join, Found, found_at, out_at, rule}
use Rattle.reader.specs.Recovery.{select, Stretch, none, another, founds_from, starts, PairsBegin, reaches, in_none, clear_of, early_of, Recovered}
use Rattle.frame.specs.Elements.{All}
use Rattle.reader.specs.Further.{BinaryRecovers, LateFramesComeBack}
use Rattle.frame.specs.Steps.{pass_after}
use Rattle.frame.specs.declared.framing.Footer.{Footer}
use Rattle.frame.specs.declared.framing.Format.{Format}
use Rattle.frame.specs.declared.framing.Format.TheVariants.{Binary}
use Rattle.frame.proofs.Numbers.{le_or_lt}
use Rattle.frame.proofs.Shapes.{NoFrame}
use Rattle.frame.proofs.Optional.{read_sized}
use Rattle.frame.proofs.Rules.{rule_from, rule_walk, rule_pass, rule_noise}
use Rattle.reader.proofs.Stretches.{pair_read, rule_stretch}

-- The pair A5 5A stands at place i of s.
abbrev PairAt : List ℕ → ℕ → Type 0
PairAt s i = (suc i < length s) × (get_or s i 0 ≡ 0xA5) × (get_or s (suc i) 0 ≡ 0x5A)

-- The proviso, for a stretch whose first frame begins at `place`.
abbrev PairsFrom : ℕ → List (List ℕ) → Type 0
PairsFrom place gs = (i : ℕ) → PairAt (flatten gs) i → Memᴰ (place + i) (starts place gs)

-- No frame of a stretch begins before its first one.
starts_late : (place : ℕ) (gs : List (List ℕ)) (i : ℕ) → Memᴰ i (starts place gs) → place ≤ i
starts_late place [] i m = absurd (Memᴰ.not-nil m)
starts_late place (g ∷ gs) i m =
    ⊎_elim
    (λ (e : i ≡ place). omega arith)
    (λ (k : Memᴰ i (starts (place + length g) gs)). omega (arith, starts_late (place + length g) gs i k))
    (Memᴰ.cases_cons m)

-- The pair does not stand inside the first frame.
pairs_inside :
    (place : ℕ) (g : List ℕ) (gs : List (List ℕ)) → PairsFrom place (g ∷ gs) →
    (i : ℕ) → 1 ≤ i → i < length g → PairAt (g ++ flatten gs) i → ⊥
unfolding flatten
pairs_inside place g gs pairs i some l k =
    ⊎_elim
    (λ (e : place + i ≡ place). omega arith)
    (λ (m : Memᴰ (place + i) (starts (place + length g) gs)). omega (arith, starts_late (place + length g) gs (place + i) m))
    (Memᴰ.cases_cons (pairs i k))

-- A pair behind bytes is a pair further on.
pair_behind : (g s : List ℕ) (i : ℕ) → PairAt s i → PairAt (g ++ s) (length g + i)
pair_behind g s i k = (
  rw length-append (omega (arith, k.0)),
  get_or-append-add g s i 0 ∙ k.1,
  ap (λ (n : ℕ). get_or (g ++ s) n 0) (sym (add-suc (length g) i)) ∙ get_or-append-add g s (suc i) 0 ∙ k.2,
)

-- A pair in what is left behind n bytes stands n places further on.
pair_in_drop : (n : ℕ) (s : List ℕ) (i : ℕ) → PairAt (drop n s) i → PairAt s (n + i)
pair_in_drop n s i k = (
  omega (arith, k.0, length-drop n s),
  sym (get_or-drop n s i 0) ∙ k.1,
  ap (λ (m : ℕ). get_or s m 0) (sym (add-suc n i)) ∙ sym (get_or-drop n s (suc i) 0) ∙ k.2,
)

-- The proviso holds behind the first frame.
pairs_tail : (place : ℕ) (g : List ℕ) (gs : List (List ℕ)) → 1 ≤ length g → PairsFrom place (g ∷ gs) → PairsFrom (place + length g) gs
unfolding flatten
pairs_tail place g gs some pairs i k =
    ⊎_elim
    (λ (e : place + (length g + i) ≡ place). absurd (let z : ⊥ = omega arith in z))
    (λ (m : Memᴰ (place + (length g + i)) (starts (place + length g) gs)). Memᴰ.cast (add_assoc place (length g) i) m)
    (Memᴰ.cases_cons (pairs (length g + i) (pair_behind g (flatten gs) i k)))

-- A good frame as the rule hands it out.
abbrev good_at : Format → ℕ → List ℕ → Found
good_at f place g = found_at place (length g) (payload_in (read f g))

-- A frame before others, where a test selects it.
abbrev keep : Bool → Found → List Found → List Found
keep t x xs = ite {C = List Found} (Bool-discrete t true) (x ∷ xs) xs

-- The frames of a stretch that begin at `bound` or later.
abbrev from : ℕ → List Found → List Found
from bound xs = select (λ x. leb bound x.place) xs

-- Tests that agree on the places of a stretch select the same of its frames.
select_same :
    (f : Format) (place : ℕ) (gs : List (List ℕ)) (q r : Found → Bool) → ((x : Found) → place ≤ x.place → q x ≡ r x) →
    select q (founds_from f place gs) ≡ select r (founds_from f place gs)
select_same f place [] q r h = refl
select_same f place (g ∷ gs) q r h =
    ap₂
    (λ (t : Bool) (xs : List Found). keep t (good_at f place g) xs)
    (h (good_at f place g) (le_refl place))
    (select_same f (place + length g) gs q r (λ x l. h x (omega arith)))

-- A test that all pass selects all.
select_all : (xs : List Found) → select (λ x. true) xs ≡ xs
select_all [] = refl
select_all (x ∷ xs) = ap (λ (l : List Found). x ∷ l) (select_all xs)

-- All the frames of a stretch begin at its first place or later.
from_first :
    (f : Format) (place : ℕ) (gs : List (List ℕ)) (bound : ℕ) → bound ≤ place → from bound (founds_from f place gs) ≡ founds_from f place gs
from_first f place gs bound l =
    select_same f place gs (λ x. leb bound x.place) (λ x. true) (λ x k. le-leb bound x.place (le_trans l k))
    ∙ select_all (founds_from f place gs)

-- A frame that begins before the bound is left out.
from_later :
    (f : Format) (place : ℕ) (g : List ℕ) (gs : List (List ℕ)) (bound : ℕ) → place < bound →
    from bound (founds_from f place (g ∷ gs)) ≡ from bound (founds_from f (place + length g) gs)
from_later f place g gs bound l =
    let xs : List Found = from bound (founds_from f (place + length g) gs) in
    ap (λ (t : Bool). keep t (good_at f place g) xs) (lt-leb bound place l)

-- Of two places in order, the test of the later against what a frame covers tells whether it is behind the frame.
covers : (place used at : ℕ) → place ≤ at → not (leb place at && ltb at (place + used)) ≡ leb (place + used) at
covers place used at l =
    ap (λ (t : Bool). not (t && ltb at (place + used))) (le-leb place at l)
    ∙ ⊎_elim
    (λ (k : place + used ≤ at). ap not (le-ltb at (place + used) k) ∙ sym (le-leb (place + used) at k))
    (λ (k : at < place + used). ap not (lt-ltb at (place + used) k) ∙ sym (lt-leb (place + used) at k))
    (le_or_lt (place + used) at)

-- The places of a stretch further on are as much further on.
starts_shift : (k place : ℕ) (gs : List (List ℕ)) (i : ℕ) → Memᴰ i (starts place gs) → Memᴰ (k + i) (starts (k + place) gs)
starts_shift k place [] i m = absurd (Memᴰ.not-nil m)
starts_shift k place (g ∷ gs) i m =
    ⊎_elim
    (λ (e : i ≡ place). Memᴰ.head (ap (λ (n : ℕ). k + n) e))
    (λ (n : Memᴰ i (starts (place + length g) gs)).
    Memᴰ.tail
    (subst
    (λ (q : ℕ). Memᴰ (k + i) (starts q gs))
    (sym (add_assoc k place (length g)))
    (starts_shift k (place + length g) gs i n)))
    (Memᴰ.cases_cons m)

-- The proviso, wherever the stretch begins.
pairs_from : (place : ℕ) (gs : List (List ℕ)) → PairsBegin gs → PairsFrom place gs
pairs_from place gs pairs i k =
    subst (λ (q : ℕ). Memᴰ (place + i) (starts q gs)) (add-zero place) (starts_shift place 0 gs i (pairs i k.0 k.1 k.2))

-- A test that the first of two lists passes and the second fails selects the first.
select_first :
    (q : Found → Bool) (xs ys : List Found) → All (λ x. q x ≡ true) xs → select q ys ≡ [] → select q (xs ++ ys) ≡ xs
select_first q [] ys h e = e
select_first q (x ∷ xs) ys h e =
    ap₂ (λ (t : Bool) (zs : List Found). keep t x zs) h.0 (select_first q xs ys h.1 e)

-- Frames that begin before a bound pass the test for it.
before_bound : (bound : ℕ) (xs : List Found) → All (λ x. x.place < bound) xs → All (λ x. ltb x.place bound ≡ true) xs
before_bound bound [] h = tt
before_bound bound (x ∷ xs) h = (lt-ltb x.place bound h.0, before_bound bound xs h.1)

-- No frame of a stretch begins before it, whichever are selected.
none_before :
    (f : Format) (q : Found → Bool) (place bound : ℕ) (gs : List (List ℕ)) → bound ≤ place →
    select (λ x. ltb x.place bound) (select q (founds_from f place gs)) ≡ []
none_before f q place bound [] l = refl
none_before f q place bound (g ∷ gs) l = with_first (q (good_at f place g)) (none_before f q (place + length g) bound gs (omega arith))
  where
    later : List Found
    later = select q (founds_from f (place + length g) gs)

    with_first :
        (t : Bool) → select (λ x. ltb x.place bound) later ≡ [] →
        select (λ x. ltb x.place bound) (keep t (good_at f place g) later) ≡ []
    with_first true e = ap₂ (λ (t : Bool) (zs : List Found). keep t (good_at f place g) zs) (le-ltb place bound l) e
    with_first false e = e

-- A place behind all that frames reach lies in none of them.
behind_all : (m at : ℕ) (xs : List Found) → All (λ x. x.place + x.used ≤ m) xs → m ≤ at → in_none at xs ≡ true
behind_all m at [] h l = refl
behind_all m at (x ∷ xs) h l =
    ap₂
    (λ (s t : Bool). not (leb x.place at && s) && t)
    (le-ltb at (x.place + x.used) (le_trans h.0 l))
    (behind_all m at xs h.1 l)
    ∙ ap (λ (t : Bool). not t && true) (and-false (leb x.place at))

-- An element that passes the test is selected.
mem_select : (q : Found → Bool) (xs : List Found) (x : Found) → q x ≡ true → Memᴰ x xs → Memᴰ x (select q xs)
mem_select q [] x t m = absurd (Memᴰ.not-nil m)
mem_select q (y ∷ ys) x t m =
    ⊎_elim
    (λ (e : x ≡ y). subst (λ (b : Bool). Memᴰ x (keep b y (select q ys))) (sym (ap q (sym e) ∙ t)) (Memᴰ.head e))
    (λ (k : Memᴰ x ys). mem_cond (q y) (mem_select q ys x t k))
    (Memᴰ.cases_cons m)
  where
    mem_cond : (b : Bool) → Memᴰ x (select q ys) → Memᴰ x (keep b y (select q ys))
    mem_cond true k = Memᴰ.tail k
    mem_cond false k = k

-- For either choice of the footer.
module _ (footer : Footer) where
  -- Where the pair does not stand, no frame begins.
  no_pair_as : (s : List ℕ) (v : Verdict) → read (Binary footer) s ≡ v → (PairAt s 0 → ⊥) → NoFrame v
  no_pair_as s cut e h = tt
  no_pair_as s (refused judged n) e h = tt
  no_pair_as s (frame used p) e h =
      let k = pair_read footer s p used e in
      h (subst (λ (l : List ℕ). PairAt l 0) (sym k.1) (omega arith, refl, refl))

  -- So a byte there is noise.
  no_pair : (s : List ℕ) → (PairAt s 0 → ⊥) → NoFrame (read (Binary footer) s)
  no_pair s h = no_pair_as s (read (Binary footer) s) refl h

  -- Bytes in which no pair stands give no frame.
  rule_unpaired :
      (place : ℕ) (d more : List ℕ) → ((i : ℕ) → i < length d → PairAt (d ++ more) i → ⊥) →
      (rule_from (Binary footer) place 0 (d ++ more)).frames ≡ (rule_from (Binary footer) (place + length d) 0 more).frames
  unfolding join
  rule_unpaired place [] more h = rw add-zero
  rule_unpaired place (b ∷ d) more h =
      ap (λ (o : Output Found). o.frames) (rule_noise (Binary footer) place b (d ++ more) (no_pair (b ∷ (d ++ more)) (h 0 (suc-le-suc zero-le))))
      ∙ rule_unpaired (suc place) d more (λ i l k. h (suc i) (suc-le-suc l) (suc-le-suc k.0, k.1, k.2))
      ∙ rw (suc-add, add-suc)

  -- To pass over more bytes than the first frame has is to pass over the rest of them behind it.
  pass_more :
      (place m : ℕ) (g more : List ℕ) →
      rule_from (Binary footer) place (length g + m) (g ++ more) ≡ rule_from (Binary footer) (place + length g) m more
  pass_more place m g more =
      rule_pass (Binary footer) place (length g + m) (g ++ more)
      ∙ ap₂ (λ (n : ℕ) (s : List ℕ). rule_from (Binary footer) n 0 s) (sym (add_assoc place (length g) m)) (drop-append-add g more m)
      ∙ sym (rule_pass (Binary footer) (place + length g) m more)

  -- To pass over some bytes of the first frame is to hand out nothing of it.
  pass_some :
      (place pass : ℕ) (g : List ℕ) (gs : List (List ℕ)) → 1 ≤ pass → pass < length g → PairsFrom place (g ∷ gs) →
      (rule_from (Binary footer) place pass (g ++ flatten gs)).frames ≡ (rule_from (Binary footer) (place + length g) 0 (flatten gs)).frames
  pass_some place pass g gs some l pairs =
      let c : List ℕ = flatten gs in
      let behind : place + pass + length (drop pass g) ≡ place + length g = omega (arith, length-drop pass g) in
      let here : drop pass (g ++ c) ≡ drop pass g ++ c = drop-append-le pass g c (omega arith) in
      ap (λ (o : Output Found). o.frames) (rule_pass (Binary footer) place pass (g ++ c) ∙ ap (rule_from (Binary footer) (place + pass) 0) here)
      ∙ rule_unpaired (place + pass) (drop pass g) c (λ i k q.
      pairs_inside place g gs pairs (pass + i) (omega arith) (omega (arith, length-drop pass g))
      (pair_in_drop pass (g ++ c) i (subst (λ (s : List ℕ). PairAt s i) (sym here) q)))
      ∙ ap (λ (n : ℕ). (rule_from (Binary footer) n 0 c).frames) behind

  -- Where the rule comes to a stretch with bytes still to pass over, it hands out the frames that begin behind those.
  rule_into :
      {gs : List (List ℕ)} (place pass : ℕ) → Stretch (Binary footer) gs → PairsFrom place gs →
      (rule_from (Binary footer) place pass (flatten gs)).frames ≡ from (place + pass) (founds_from (Binary footer) place gs)
  unfolding rule_from flatten
  rule_into place pass none pairs = refl
  rule_into place zero (another {g} {gs} good st) pairs =
      ap (λ (o : Output Found). o.frames) (rule_stretch (Binary footer) place (another good st))
      ∙ sym (from_first (Binary footer) place (g ∷ gs) (place + 0) (omega arith))
  rule_into place (suc pass) (another {g} {gs} good st) pairs =
      let some : 1 ≤ length g = (read_sized (Binary footer) g good.payload (length g) good.reads).some in
      ⊎_elim
      (λ (l : length g ≤ suc pass).
      let m : ℕ = suc pass - length g in
      let e : suc pass ≡ length g + m = omega arith in
      ap (λ (k : ℕ). (rule_from (Binary footer) place k (g ++ flatten gs)).frames) e
      ∙ ap (λ (o : Output Found). o.frames) (pass_more place m g (flatten gs))
      ∙ rule_into (place + length g) m st (pairs_tail place g gs some pairs)
      ∙ ap (λ (k : ℕ). from k (founds_from (Binary footer) (place + length g) gs)) (let q : place + length g + m ≡ place + suc pass = omega arith in q))
      (λ (l : suc pass < length g).
      pass_some place (suc pass) g gs (suc-le-suc zero-le) l pairs
      ∙ ap (λ (o : Output Found). o.frames) (rule_stretch (Binary footer) (place + length g) st)
      ∙ sym (from_first (Binary footer) (place + length g) gs (place + suc pass) (omega arith)))
      (le_or_lt (length g) (suc pass))
      ∙ sym (from_later (Binary footer) place g gs (place + suc pass) (omega arith))

  -- What the rule does in the damage d, whose first byte stands at `place`, with `pass` bytes to pass over first: the frames that begin in
  -- it, the bytes still to pass over behind it, and what these frames cover of places at `end`, the stretch's first, or later.
  record Early (more : List ℕ) (end place pass : ℕ) (d : List ℕ) : Type 0 where
    early : List Found
    left : ℕ
    begin : All (λ x. x.place < end) early
    one : length (select (reaches end) early) ≤ 1
    reach : All (λ x. x.place + x.used ≤ end + 260) early
    gone : length d ≤ pass → early ≡ []
    clear : (at : ℕ) → end ≤ at → (in_none at early && leb (place + pass) at) ≡ leb (end + left) at
    frames : (rule_from (Binary footer) place pass (d ++ more)).frames ≡ early ++ (rule_from (Binary footer) end left more).frames

  module _ (more : List ℕ) (first : get_or more 0 0 ≡ 0x5A → ⊥) (end : ℕ) where
    -- The end of the damage.
    early_nil : (place pass : ℕ) → place + 0 ≡ end → Early more end place pass []
    early_nil place pass e =
        let same : place ≡ end = omega arith in
        record {
          early = [];
          left = pass;
          begin = tt;
          one = zero-le;
          reach = tt;
          gone = λ _. refl;
          clear = λ at l. rw same;
          frames = rw same;
        }

    -- A byte to pass over.
    early_pass : (place pass b : ℕ) (d : List ℕ) → Early more end (suc place) pass d → Early more end place (suc pass) (b ∷ d)
    unfolding rule_from
    early_pass place pass b d w =
        record {
          early = w.early;
          left = w.left;
          begin = w.begin;
          one = w.one;
          reach = w.reach;
          gone = λ l. w.gone (le_of_suc-le-suc l);
          clear = λ at l. ap (λ (n : ℕ). in_none at w.early && leb n at) (add-suc place pass ∙ sym (suc-add place pass)) ∙ w.clear at l;
          frames = w.frames;
        }

    -- A byte at which no frame begins.
    early_noise :
        (place b : ℕ) (d : List ℕ) → place + suc (length d) ≡ end → NoFrame (read (Binary footer) (b ∷ (d ++ more))) →
        Early more end (suc place) 0 d → Early more end place 0 (b ∷ d)
    unfolding join
    early_noise place b d e h w =
        record {
          early = w.early;
          left = w.left;
          begin = w.begin;
          one = w.one;
          reach = w.reach;
          gone = λ l. absurd (not-suc-le-zero l);
          clear = λ at l.
              ap
              (λ (t : Bool). in_none at w.early && t)
              (le-leb (place + 0) at (omega arith) ∙ sym (le-leb (suc place + 0) at (omega arith)))
              ∙ w.clear at l;
          frames = ap (λ (o : Output Found). o.frames) (rule_noise (Binary footer) place b (d ++ more) h) ∙ w.frames;
        }

    -- A frame that begins in the damage has two bytes there: the stretch does not begin with 5A.
    two_inside : (b : ℕ) (d p : List ℕ) (used : ℕ) → read (Binary footer) (b ∷ (d ++ more)) ≡ frame used p → 1 ≤ length d
    two_inside b [] p used e = absurd (first (ap (λ (s : List ℕ). get_or s 1 0) (pair_read footer (b ∷ more) p used e).1))
    two_inside b (c ∷ d) p used e = suc-le-suc zero-le

    -- Of one frame at most one is selected.
    at_most_one : (t : Bool) (x : Found) → length (keep t x []) ≤ 1
    at_most_one true x = le_refl 1
    at_most_one false x = zero-le

    -- A byte at which a frame begins.
    early_frame :
        (place b : ℕ) (d p : List ℕ) (used : ℕ) → place + suc (length d) ≡ end → read (Binary footer) (b ∷ (d ++ more)) ≡ frame used p →
        Early more end (suc place) (pred used) d → Early more end place 0 (b ∷ d)
    unfolding rule_from join
    early_frame place b d p used e h w =
        let x : Found = found_at place used p in
        let sized = read_sized (Binary footer) (b ∷ (d ++ more)) p used h in
        let most : used ≤ 262 = sized.most in
        let some : 1 ≤ used = sized.some in
        let two : 1 ≤ length d = two_inside b d p used h in
        let over : List Found = select (reaches end) w.early in
        let fewer : place + used ≤ end → length (select (reaches end) (x ∷ w.early)) ≤ 1 =
        λ l. subst (λ (t : Bool). length (keep t x over) ≤ 1) (sym (le-ltb end (place + used) l)) w.one in
        let last : end < place + used → length (select (reaches end) (x ∷ w.early)) ≤ 1 =
        λ l.
        subst
        (λ (xs : List Found). length (select (reaches end) (x ∷ xs)) ≤ 1)
        (sym (w.gone (omega arith)))
        (at_most_one (reaches end x) x) in
        record {
          early = x ∷ w.early;
          left = w.left;
          begin = (omega arith, w.begin);
          one = ⊎_elim fewer last (le_or_lt (place + used) end);
          reach = (omega arith, w.reach);
          gone = λ l. absurd (not-suc-le-zero l);
          clear = λ at l.
              let n = in_none at w.early in
              ap₂ (λ (s t : Bool). s && n && t) (covers place used at (omega arith)) (le-leb (place + 0) at (omega arith))
              ∙ and-true (leb (place + used) at && n)
              ∙ and_comm (leb (place + used) at) n
              ∙ ap (λ (m : ℕ). n && leb m at) (let q : place + used ≡ suc place + pred used = omega arith in q)
              ∙ w.clear at l;
          frames =
              ap (λ (v : Verdict). (join (out_at place v) (rule_from (Binary footer) (suc place) (pass_after v) (d ++ more))).frames) h
              ∙ ap (λ (xs : List Found). x ∷ xs) w.frames;
        }

    -- A byte, whatever stands there.
    early_at :
        (place b : ℕ) (d : List ℕ) (v : Verdict) → place + suc (length d) ≡ end → read (Binary footer) (b ∷ (d ++ more)) ≡ v →
        ((pass : ℕ) → Early more end (suc place) pass d) → Early more end place 0 (b ∷ d)
    early_at place b d cut e h w = early_noise place b d e (subst NoFrame (sym h) tt) (w 0)
    early_at place b d (refused judged n) e h w = early_noise place b d e (subst NoFrame (sym h) tt) (w 0)
    early_at place b d (frame used p) e h w = early_frame place b d p used e h (w (pred used))

    -- All of the damage.
    walk : (place pass : ℕ) (d : List ℕ) → place + length d ≡ end → Early more end place pass d
    walk place pass [] e = early_nil place pass e
    walk place zero (b ∷ d) e = early_at place b d (read (Binary footer) (b ∷ (d ++ more))) e refl (λ pass. walk (suc place) pass d (omega arith))
    walk place (suc pass) (b ∷ d) e = early_pass place pass b d (walk (suc place) pass d (omega arith))

  -- A stretch does not begin with 5A.
  stretch_first : {gs : List (List ℕ)} → Stretch (Binary footer) gs → get_or (flatten gs) 0 0 ≡ 0x5A → ⊥
  unfolding flatten
  stretch_first none e = let z : ◌≡◌ {A = ℕ} 0 0x5A = e in omega arith
  stretch_first (another {g} {gs} good st) e =
      let h = pair_read footer g good.payload (length g) good.reads in
      let z : ◌≡◌ {A = ℕ} 0xA5 0x5A = ap (λ (l : List ℕ). get_or (l ++ flatten gs) 0 0) (sym h.1) ∙ e in
      omega arith

  -- Behind damage: the frames that begin in it, then the good frames whose first byte lies in none of them.
  pub binary_recovers : BinaryRecovers footer
  binary_recovers damage gs st pairs =
      let end : ℕ = length damage in
      let w : Early (flatten gs) end 0 0 damage = walk (flatten gs) (stretch_first st) end 0 0 damage (zero-add end) in
      let same : (x : Found) → end ≤ x.place → leb (end + w.left) x.place ≡ in_none x.place w.early =
      λ x l.
      sym (w.clear x.place l)
      ∙ ap (λ (t : Bool). in_none x.place w.early && t) (le-leb 0 x.place zero-le)
      ∙ and-true (in_none x.place w.early) in
      let frames : (rule (Binary footer) (damage ++ flatten gs)).frames ≡ w.early ++ clear_of footer w.early damage gs =
      ap (λ (o : Output Found). o.frames) (rule_walk (Binary footer) (damage ++ flatten gs))
      ∙ w.frames
      ∙ ap
      (λ (xs : List Found). w.early ++ xs)
      (rule_into end w.left st (pairs_from end gs pairs)
      ∙ select_same (Binary footer) end gs (λ x. leb (end + w.left) x.place) (λ x. in_none x.place w.early) same) in
      let early : w.early ≡ early_of footer damage gs =
      sym
      (ap (select (λ x. ltb x.place end)) frames
      ∙ select_first (λ x. ltb x.place end) w.early (clear_of footer w.early damage gs) (before_bound end w.early w.begin)
      (none_before (Binary footer) (λ x. in_none x.place w.early) end end gs (le_refl end))) in
      record {
        one = subst (λ (xs : List Found). length (select (reaches end) xs) ≤ 1) early w.one;
        reach = subst (All (λ x. x.place + x.used ≤ end + 260)) early w.reach;
        frames = frames ∙ ap (λ (xs : List Found). xs ++ clear_of footer xs damage gs) early;
      }

  -- A good frame that begins 260 or more bytes into the stretch is clear of the frames that begin in the damage.
  pub late_clear :
      (damage : List ℕ) (gs : List (List ℕ)) → Recovered footer damage gs → (x : Found) →
      Memᴰ x (founds_from (Binary footer) (length damage) gs) → length damage + 260 ≤ x.place →
      Memᴰ x (clear_of footer (early_of footer damage gs) damage gs)
  late_clear damage gs r x m l =
      let early : List Found = early_of footer damage gs in
      mem_select
      (λ y. in_none y.place early)
      (founds_from (Binary footer) (length damage) gs)
      x
      (behind_all (length damage + 260) x.place early r.reach l)
      m

  -- So it is handed out.
  pub late_frames_come_back : LateFramesComeBack footer
  late_frames_come_back damage gs st pairs x m l =
      let r : Recovered footer damage gs = binary_recovers damage gs st pairs in
      subst
      (λ (xs : List Found). Memᴰ x xs)
      (sym r.frames)
      (Memᴰ.append_right (early_of footer damage gs) (late_clear damage gs r x m l))
