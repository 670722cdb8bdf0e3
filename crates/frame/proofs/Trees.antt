-- Laws of trees of checks, whatever the format: what each combinator does at a place of a list, what a frame's bytes must have been,
-- that a decision stands, and how many bytes a tree can take.
-- Assumes nothing.
use Rattle.std.proofs.Common.{◌≡◌, ℕ, zero, suc, ◌+◌, ◌*◌, ◌<◌, ◌≤◌, Bool, true, false, cond, eqb, List, [], ◌∷◌, ◌++◌, length, get_or, take, drop, sym, refl, ap, ◌∙◌, subst, ⊎_elim, append_assoc, zero-le, le_of_suc-le-suc, not-suc-le-zero, add_assoc, suc-add, zero-add, one-add, arith, length-append, drop_of_length-le, drop-cons, take_at, eq-eqb, ne_eqb, eqb-true}
use Rattle.frame.specs.Checks.{Checks, next, fails, whole, byte, test, word, bytes, Verdict, cut, refused, frame, behind, run}
use Rattle.frame.specs.Further.{Decided}
use Rattle.frame.proofs.Numbers.{le_or_lt}

pub behind_behind : (j k : ℕ) (v : Verdict) → behind j (behind k v) ≡ behind (j + k) v
behind_behind j k cut = refl
behind_behind j k (refused i n) = ap (λ (x : ℕ). refused x n) (sym (add_assoc j k i))
behind_behind j k (frame u p) = ap (λ (x : ℕ). frame x p) (sym (add_assoc j k u))

pub behind_zero : (v : Verdict) → behind 0 v ≡ v
behind_zero cut = refl
behind_zero (refused i n) = ap (λ (x : ℕ). refused x n) (zero-add i)
behind_zero (frame u p) = ap (λ (x : ℕ). frame x p) (zero-add u)

-- A byte is there: it is taken.
pub step : (t : ℕ → Checks) (s : List ℕ) (k : ℕ) → k < length s → run (next t) (drop k s) ≡ behind 1 (run (t (get_or s k 0)) (drop (suc k) s))
step t s k h = ap (run (next t)) (drop-cons s k 0 h)

-- No byte is there.
pub stop : (t : ℕ → Checks) (s : List ℕ) (k : ℕ) → length s ≤ k → run (next t) (drop k s) ≡ cut
stop t s k h = ap (run (next t)) (drop_of_length-le s h)

module _ (b n : ℕ) (t : Checks) (s : List ℕ) (k : ℕ) where
  pub pass_byte : k < length s → get_or s k 0 ≡ b → run (byte b n t) (drop k s) ≡ behind 1 (run t (drop (suc k) s))
  unfolding byte
  pass_byte h e =
      step (λ x. cond (eqb x b) t (fails n)) s k h
      ∙ ap (λ (q : Bool). behind 1 (run (cond q t (fails n)) (drop (suc k) s))) (eq-eqb (get_or s k 0) b e)

  pub fail_byte : k < length s → (get_or s k 0 ≡ b → ⊥) → run (byte b n t) (drop k s) ≡ refused 1 n
  unfolding byte
  fail_byte h e =
      step (λ x. cond (eqb x b) t (fails n)) s k h
      ∙ ap (λ (q : Bool). behind 1 (run (cond q t (fails n)) (drop (suc k) s))) (ne_eqb (get_or s k 0) b e)

  pub cut_byte : length s ≤ k → run (byte b n t) (drop k s) ≡ cut
  unfolding byte
  cut_byte h = stop (λ x. cond (eqb x b) t (fails n)) s k h

pub pass_test : (holds : Bool) (n : ℕ) (t : Checks) → holds ≡ true → test holds n t ≡ t
unfolding test
pass_test holds n t e = ap (λ (q : Bool). cond q t (fails n)) e

pub fail_test : (holds : Bool) (n : ℕ) (t : Checks) → holds ≡ false → test holds n t ≡ fails n
unfolding test
fail_test holds n t e = ap (λ (q : Bool). cond q t (fails n)) e

module _ (t : ℕ → Checks) (s : List ℕ) (k : ℕ) where
  pub pass_word : suc k < length s → run (word t) (drop k s) ≡ behind 2 (run (t (get_or s k 0 * 256 + get_or s (suc k) 0)) (drop (suc (suc k)) s))
  unfolding word
  pass_word h =
      step (λ high. next (λ low. t (high * 256 + low))) s k (omega arith)
      ∙ ap (behind 1) (step (λ low. t (get_or s k 0 * 256 + low)) s (suc k) h)
      ∙ behind_behind 1 1 (run (t (get_or s k 0 * 256 + get_or s (suc k) 0)) (drop (suc (suc k)) s))

  pub cut_word : length s ≤ suc k → run (word t) (drop k s) ≡ cut
  unfolding word
  cut_word h =
      ⊎_elim
      (λ (l : length s ≤ k). stop (λ high. next (λ low. t (high * 256 + low))) s k l)
      (λ (l : k < length s).
      step (λ high. next (λ low. t (high * 256 + low))) s k l
      ∙ ap (behind 1) (stop (λ low. t (get_or s k 0 * 256 + low)) s (suc k) h))
      (le_or_lt (length s) k)

-- The next n bytes are there: they are taken.
pub pass_bytes : (n : ℕ) (t : List ℕ → Checks) (s : List ℕ) → n ≤ length s → run (bytes n t) s ≡ behind n (run (t (take n s)) (drop n s))
unfolding bytes
pass_bytes zero t s h = sym (behind_zero (run (t []) s))
pass_bytes (suc n) t [] h = absurd (not-suc-le-zero h)
pass_bytes (suc n) t (b ∷ s) h =
    ap (behind 1) (pass_bytes n (λ p. t (b ∷ p)) s (le_of_suc-le-suc h))
    ∙ behind_behind 1 n (run (t (b ∷ take n s)) (drop n s))
    ∙ ap (λ (k : ℕ). behind k (run (t (b ∷ take n s)) (drop n s))) (one-add n)

-- They are not: cut.
pub cut_bytes : (n : ℕ) (t : List ℕ → Checks) (s : List ℕ) → length s < n → run (bytes n t) s ≡ cut
unfolding bytes
cut_bytes zero t s h = absurd (not-suc-le-zero h)
cut_bytes (suc n) t [] h = refl
cut_bytes (suc n) t (b ∷ s) h = ap (behind 1) (cut_bytes n (λ p. t (b ∷ p)) s (le_of_suc-le-suc h))

-- The byte that is asked for stands in front.
pub run_byte : (b n : ℕ) (t : Checks) (s : List ℕ) → run (byte b n t) (b ∷ s) ≡ behind 1 (run t s)
unfolding byte
run_byte b n t s = ap (λ (q : Bool). behind 1 (run (cond q t (fails n)) s)) (eq-eqb b b refl)

-- As many bytes as are asked for stand in front.
pub run_bytes : (p s : List ℕ) (t : List ℕ → Checks) → run (bytes (length p) t) (p ++ s) ≡ behind (length p) (run (t p) s)
unfolding bytes
run_bytes [] s t = sym (behind_zero (run (t []) s))
run_bytes (b ∷ p) s t =
    ap (behind 1) (run_bytes p s (λ q. t (b ∷ q)))
    ∙ behind_behind 1 (length p) (run (t (b ∷ p)) s)
    ∙ ap (λ (k : ℕ). behind k (run (t (b ∷ p)) s)) (one-add (length p))

pub decided_behind : (k : ℕ) (v : Verdict) → Decided (behind k v) → Decided v
decided_behind k cut d = d
decided_behind k (refused i n) d = tt
decided_behind k (frame u p) d = tt

-- A decision stands when more bytes follow.
pub stands : (t : Checks) (s more : List ℕ) → Decided (run t s) → run t (s ++ more) ≡ run t s
stands (fails n) s more d = refl
stands (whole p) s more d = refl
stands (next t) [] more d = absurd d
stands (next t) (b ∷ s) more d = ap (behind 1) (stands (t b) s more (decided_behind 1 (run (t b) s) d))

-- No way through the tree takes more than n bytes.
abbrev pub Within : ℕ → Checks → Type 0
Within n (fails k) = Unit {0}
Within n (whole p) = Unit {0}
Within zero (next t) = ⊥
Within (suc n) (next t) = (b : ℕ) → Within n (t b)

-- The verdict on m bytes, of which a tree takes at most n: undecided ones are fewer, and those judged for a decision are among them.
abbrev pub Bounded : ℕ → ℕ → Verdict → Type 0
Bounded n m cut = m < n
Bounded n m (refused judged k) = (judged ≤ n) × (judged ≤ m)
Bounded n m (frame used p) = (used ≤ n) × (used ≤ m)

bounded_behind : (n m : ℕ) (v : Verdict) → Bounded n m v → Bounded (suc n) (suc m) (behind 1 v)
bounded_behind n m cut h = omega arith
bounded_behind n m (refused judged k) h = omega arith
bounded_behind n m (frame used p) h = omega arith

pub bounded : (n : ℕ) (t : Checks) (s : List ℕ) → Within n t → Bounded n (length s) (run t s)
bounded n (fails k) s w = (zero-le, zero-le)
bounded n (whole p) s w = (zero-le, zero-le)
bounded zero (next t) s w = absurd w
bounded (suc n) (next t) [] w = omega arith
bounded (suc n) (next t) (b ∷ s) w = bounded_behind n (length s) (run (t b) s) (bounded n (t b) s (w b))

within_cond : (n k : ℕ) (q : Bool) (t : Checks) → Within n t → Within n (cond q t (fails k))
within_cond n k true t w = w
within_cond n k false t w = tt

pub within_whole : (n : ℕ) (p : List ℕ) → Within n (whole p)
within_whole n p = tt

pub within_byte : (n b k : ℕ) (t : Checks) → Within n t → Within (suc n) (byte b k t)
unfolding byte
within_byte n b k t w = λ x. within_cond n k (eqb x b) t w

pub within_test : (n k : ℕ) (q : Bool) (t : Checks) → (q ≡ true → Within n t) → Within n (test q k t)
unfolding test
within_test n k true t w = w refl
within_test n k false t w = tt

pub within_word : (n : ℕ) (t : ℕ → Checks) → ((w : ℕ) → Within n (t w)) → Within (suc (suc n)) (word t)
unfolding word
within_word n t w = λ high low. w (high * 256 + low)

pub within_bytes : (n k : ℕ) (t : List ℕ → Checks) → ((p : List ℕ) → Within n (t p)) → Within (k + n) (bytes k t)
unfolding bytes
within_bytes n zero t w = subst (λ (m : ℕ). Within m (t [])) (sym (zero-add n)) (w [])
within_bytes n (suc k) t w =
    subst (λ (m : ℕ). Within m (bytes (suc k) t)) (sym (suc-add k n)) (λ b. within_bytes n k (λ p. t (b ∷ p)) (λ p. w (b ∷ p)))

-- A tree that takes at most n bytes takes at most m, where m is no less.
pub within_more : (n m : ℕ) (t : Checks) → n ≤ m → Within n t → Within m t
within_more n m (fails k) h w = tt
within_more n m (whole p) h w = tt
within_more zero m (next t) h w = absurd w
within_more (suc n) zero (next t) h w = absurd (not-suc-le-zero h)
within_more (suc n) (suc m) (next t) h w = λ b. within_more n m (t b) (le_of_suc-le-suc h) (w b)

-- A frame with the payload p that uses `used` bytes of s stands behind q: the checks t are left for what follows.
pub record Behind (t : Checks) (q s : List ℕ) (used : ℕ) (p : List ℕ) : Type 0 where
  pub rest : List ℕ
  pub left : ℕ
  pub split : s ≡ q ++ rest
  pub count : used ≡ length q + left
  pub goes : run t rest ≡ frame left p

-- Verdicts of different kinds are not equal.
pub cut≢frame : (used : ℕ) (p : List ℕ) → cut ≡ frame used p → ⊥
cut≢frame used p e = let z : ◌≡◌ {A = ℕ} 0 1 = cc in omega arith

pub cut≢refused : (i n : ℕ) → cut ≡ refused i n → ⊥
cut≢refused i n e = let z : ◌≡◌ {A = ℕ} 0 1 = cc in omega arith

pub refused≢frame : (i n used : ℕ) (p : List ℕ) → refused i n ≡ frame used p → ⊥
refused≢frame i n used p e = let z : ◌≡◌ {A = ℕ} 0 1 = cc in omega arith

-- A frame behind k bytes is that frame, k bytes further on.
pub frame_behind : (k : ℕ) (v : Verdict) (used : ℕ) (p : List ℕ) → behind k v ≡ frame used p → (left : ℕ) × (v ≡ frame left p) × (used ≡ k + left)
frame_behind k cut used p e = absurd (cut≢frame used p e)
frame_behind k (refused i n) used p e = absurd (refused≢frame (k + i) n used p e)
frame_behind k (frame u q) used p e =
    let a : k + u ≡ used = cc in
    let b : q ≡ p = cc in
    (u, ap (frame u) b, sym a)

-- What a frame's bytes must be where the tree begins by taking one.
pub took_next : (t : ℕ → Checks) (s p : List ℕ) (used : ℕ) → run (next t) s ≡ frame used p → (b : ℕ) × Behind (t b) (b ∷ []) s used p
took_next t [] p used e = absurd (cut≢frame used p e)
took_next t (b ∷ s) p used e =
    let h = frame_behind 1 (run (t b) s) used p e in
    (b, record { rest = s; left = h.0; split = refl; count = h.2; goes = h.1 })

pub took_test :
    (holds : Bool) (n : ℕ) (t : Checks) (s p : List ℕ) (used : ℕ) → run (test holds n t) s ≡ frame used p → (holds ≡ true) × (run t s ≡ frame used p)
unfolding test
took_test true n t s p used e = (refl, e)
took_test false n t s p used e = absurd (refused≢frame 0 n used p e)

took_cond :
    (b n x : ℕ) (t : Checks) (s p : List ℕ) (used : ℕ) (q : Bool) → eqb x b ≡ q → run (cond q t (fails n)) s ≡ frame used p → (x ≡ b) × (run t s ≡ frame used p)
took_cond b n x t s p used true q e = (eqb-true x b q, e)
took_cond b n x t s p used false q e = absurd (refused≢frame 0 n used p e)

pub took_byte : (b n : ℕ) (t : Checks) (s p : List ℕ) (used : ℕ) → run (byte b n t) s ≡ frame used p → Behind t (b ∷ []) s used p
unfolding byte
took_byte b n t s p used e =
    let h = took_next (λ x. cond (eqb x b) t (fails n)) s p used e in
    let k = took_cond b n h.0 t h.1.rest p h.1.left (eqb h.0 b) refl h.1.goes in
    record {
      rest = h.1.rest;
      left = h.1.left;
      split = h.1.split ∙ ap (λ (x : ℕ). x ∷ h.1.rest) k.0;
      count = h.1.count;
      goes = k.1;
    }

-- One part and then another.
pub took_both : (t u : Checks) (q q' s p : List ℕ) (used : ℕ) (h : Behind u q s used p) → Behind t q' h.rest h.left p → Behind t (q ++ q') s used p
took_both t u q q' s p used h k =
    record {
      rest = k.rest;
      left = k.left;
      split = h.split ∙ ap (λ (r : List ℕ). q ++ r) k.split ∙ sym (append_assoc q q' k.rest);
      count = simp length-append (omega (arith, h.count, k.count));
      goes = k.goes;
    }

pub took_word :
    (t : ℕ → Checks) (s p : List ℕ) (used : ℕ) → run (word t) s ≡ frame used p → (high low : ℕ) × Behind (t (high * 256 + low)) (high ∷ low ∷ []) s used p
unfolding word
took_word t s p used e =
    let h = took_next (λ high. next (λ low. t (high * 256 + low))) s p used e in
    let k = took_next (λ low. t (h.0 * 256 + low)) h.1.rest p h.1.left h.1.goes in
    (h.0, k.0, took_both (t (h.0 * 256 + k.0)) (next (λ low. t (h.0 * 256 + low))) (h.0 ∷ []) (k.0 ∷ []) s p used h.1 k.1)

pub took_bytes :
    (n : ℕ) (t : List ℕ → Checks) (s p : List ℕ) (used : ℕ) → run (bytes n t) s ≡ frame used p → (q : List ℕ) × (length q ≡ n) × Behind (t q) q s used p
unfolding bytes
took_bytes zero t s p used e = ([], refl, record { rest = s; left = used; split = refl; count = sym (zero-add used); goes = e })
took_bytes (suc n) t s p used e =
    let h = took_next (λ b. bytes n (λ q. t (b ∷ q))) s p used e in
    let k = took_bytes n (λ q. t (h.0 ∷ q)) h.1.rest p h.1.left h.1.goes in
    (h.0 ∷ k.0, ap suc k.1, took_both (t (h.0 ∷ k.0)) (bytes n (λ q. t (h.0 ∷ q))) (h.0 ∷ []) k.0 s p used h.1 k.2)

pub took_whole : (q s p : List ℕ) (used : ℕ) → run (whole q) s ≡ frame used p → (used ≡ 0) × (q ≡ p)
took_whole q s p used e = (cc, cc)

-- Whatever is left for a payload hands on that payload.
abbrev pub Keeps : (List ℕ → Checks) → Type 0
Keeps rest = (q s p : List ℕ) (used : ℕ) → run (rest q) s ≡ frame used p → q ≡ p

-- What a frame's bytes must be where one byte is left.
took_last : (b n : ℕ) (q s p : List ℕ) (used : ℕ) → run (byte b n (whole q)) s ≡ frame used p
    → (rest : List ℕ) × (s ≡ b ∷ rest) × (used ≡ 1) × (q ≡ p)
took_last b n q s p used e =
    let h = took_byte b n (whole q) s p used e in
    let w = took_whole q h.rest p h.left h.goes in
    (h.rest, h.split, omega (arith, h.count, w.0), w.1)

-- One byte hands on the payload.
pub keeps_byte : (b n : ℕ) → Keeps (λ p. byte b n (whole p))
keeps_byte b n q s p used e = (took_last b n q s p used e).3

-- Where one byte is left behind q, the bytes used are q and that byte.
pub used_last : (b n : ℕ) (p q s : List ℕ) (used : ℕ) → Behind (byte b n (whole p)) q s used p
    → (take used s ≡ q ++ (b ∷ [])) × (used ≡ length (q ++ (b ∷ [])))
used_last b n p q s used h =
    let l = took_last b n p h.rest p h.left h.goes in
    let same : s ≡ (q ++ (b ∷ [])) ++ l.0 = h.split ∙ ap (λ (r : List ℕ). q ++ r) l.1 ∙ sym (append_assoc q (b ∷ []) l.0) in
    let size : used ≡ length (q ++ (b ∷ [])) = simp length-append (omega (arith, h.count, l.2)) in
    (ap (take used) same ∙ take_at (q ++ (b ∷ [])) l.0 used (sym size), size)
