-- Laws on the count of elements at the front of a list that pass a test.
-- Assumes nothing.
use Rattle.std.proofs.Common.{◌≡◌, ℕ, zero, suc, ◌+◌, ◌*◌, ◌<◌, ◌≤◌, Bool, true, false, cond, ◌&&◌, eqb, List, [], ◌∷◌, length, get_or, take, drop, min, mul-zero, mul-suc, drop-drop, refl, sym, ap, ◌∙◌, arith, eq-eqb, eqb-true}
use borrow.Author.Tests.{eqb-false}
use mathlib.Core.Bool.{false≢true}
use Rattle.std.specs.List.{prefix_len}
use Rattle.std.specs.Simd.{first_chunks}

-- It is no more than the length.
pub prefix_most : (p : ℕ → Bool) (s : List ℕ) → prefix_len p s ≤ length s
prefix_most p [] = omega arith
prefix_most p (x ∷ s) = by (p x) (prefix_most p s)
  where
    by : (q : Bool) → prefix_len p s ≤ length s → cond q (1 + prefix_len p s) 0 ≤ suc (length s)
    by true h = omega arith
    by false h = omega arith

-- Whether the elements before i pass, with the one at i.
pub record Upto (p : ℕ → Bool) (s : List ℕ) (i : ℕ) (all : Bool) : Type 0 where
  pub pass : all ≡ true → i ≤ prefix_len p s
  pub fails : all ≡ false → prefix_len p s < i

pub upto_none : (p : ℕ → Bool) (s : List ℕ) → Upto p s 0 true
upto_none p s = record { pass = λ e. omega arith; fails = λ e. absurd (false≢true (sym e)) }

-- The element at i decides whether the count goes on.
pub prefix_goes : (p : ℕ → Bool) (s : List ℕ) (i : ℕ) → i < length s → i ≤ prefix_len p s → p (get_or s i 0) ≡ true → i + 1 ≤ prefix_len p s
prefix_goes p [] i h l e = absurd (omega arith)
prefix_goes p (x ∷ s) zero h l e = rw e (omega arith)
prefix_goes p (x ∷ s) (suc i) h l e = by (p x) (λ k. prefix_goes p s i (omega arith) k e) l
  where
    by : (q : Bool) → (i ≤ prefix_len p s → i + 1 ≤ prefix_len p s) → suc i ≤ cond q (1 + prefix_len p s) 0 → suc i + 1 ≤ cond q (1 + prefix_len p s) 0
    by true f k = omega (arith, f (omega arith))
    by false f k = absurd (omega arith)

pub prefix_ends : (p : ℕ → Bool) (s : List ℕ) (i : ℕ) → i < length s → p (get_or s i 0) ≡ false → prefix_len p s ≤ i
prefix_ends p [] i h e = omega arith
prefix_ends p (x ∷ s) zero h e = rw e (omega arith)
prefix_ends p (x ∷ s) (suc i) h e = by (p x) (prefix_ends p s i (omega arith) e)
  where
    by : (q : Bool) → prefix_len p s ≤ i → cond q (1 + prefix_len p s) 0 ≤ suc i
    by true k = omega arith
    by false k = omega arith

pub upto_next : (p : ℕ → Bool) (s : List ℕ) (i : ℕ) (all r : Bool) → i < length s → r ≡ p (get_or s i 0) → Upto p s i all → Upto p s (i + 1) (all && r)
upto_next p s i true true h e u = record { pass = λ q. prefix_goes p s i h (u.pass refl) (sym e); fails = λ q. absurd (false≢true (sym q)) }
upto_next p s i true false h e u = record { pass = λ q. absurd (false≢true q); fails = λ q. omega (arith, prefix_ends p s i h (sym e)) }
upto_next p s i false r h e u = record { pass = λ q. absurd (false≢true q); fails = λ q. omega (arith, u.fails refl) }

-- At the end of the list, all pass or not.
pub upto_end : (p : ℕ → Bool) (s : List ℕ) (n : ℕ) (all : Bool) → length s ≡ n → Upto p s n all → all ≡ eqb (prefix_len p s) n
upto_end p s n true e u = sym (eq-eqb (prefix_len p s) n (omega (arith, u.pass refl, prefix_most p s)))
upto_end p s n false e u = by (eqb (prefix_len p s) n) refl
  where
    by : (q : Bool) → eqb (prefix_len p s) n ≡ q → false ≡ q
    by true k = absurd (omega (arith, u.fails refl, eqb-true (prefix_len p s) n k))
    by false k = refl

-- The count in a front of the list.
pub prefix_take : (p : ℕ → Bool) (n : ℕ) (s : List ℕ) → prefix_len p (take n s) ≡ min n (prefix_len p s)
prefix_take p zero s = omega arith
prefix_take p (suc n) [] = omega arith
prefix_take p (suc n) (x ∷ s) = by (p x) (prefix_take p n s)
  where
    by : (q : Bool) → prefix_len p (take n s) ≡ min n (prefix_len p s) → cond q (1 + prefix_len p (take n s)) 0 ≡ min (suc n) (cond q (1 + prefix_len p s) 0)
    by true e = omega arith
    by false e = omega arith

-- The count from a place on, where all before it pass.
pub prefix_drop : (p : ℕ → Bool) (n : ℕ) (s : List ℕ) → n ≤ prefix_len p s → prefix_len p s ≡ n + prefix_len p (drop n s)
prefix_drop p zero s h = omega arith
prefix_drop p (suc n) [] h = absurd (omega arith)
prefix_drop p (suc n) (x ∷ s) h = by (p x) (prefix_drop p n s) h
  where
    by : (q : Bool) → (n ≤ prefix_len p s → prefix_len p s ≡ n + prefix_len p (drop n s)) → suc n ≤ cond q (1 + prefix_len p s) 0
        → cond q (1 + prefix_len p s) 0 ≡ suc n + prefix_len p (drop n s)
    by true f k = omega (arith, f (omega arith))
    by false f k = absurd (omega arith)

-- A chunk by its place.
pub chunk_at : (n count k : ℕ) (s d : List ℕ) → k < count → get_or (first_chunks n count s) k d ≡ take n (drop (n * k) s)
chunk_at n zero k s d h = absurd (omega arith)
chunk_at n (suc count) zero s d h = rw mul-zero
chunk_at n (suc count) (suc k) s d h =
    let there : n * k + n ≡ n * suc k = omega (arith, mul-suc n k) in
    chunk_at n count k (drop n s) d (omega arith) ∙ ap (take n) (drop-drop (n * k) n s ∙ ap (λ (j : ℕ). drop j s) (omega (arith, mul-suc n k)))

-- The block there is all of bytes that pass, or not, where all bytes before it pass.
pub block_passes : (p : ℕ → Bool) (s d : List ℕ) (count k at : ℕ) (all : Bool) → k < count → at ≡ 16 * k → at ≤ prefix_len p s →
    all ≡ eqb (prefix_len p (get_or (first_chunks 16 count s) k d)) 16 → (all ≡ true → at + 16 ≤ prefix_len p s) × (all ≡ false → prefix_len p s < at + 16)
block_passes p s d count k at all l e h q =
    let here : prefix_len p (get_or (first_chunks 16 count s) k d) ≡ min 16 (prefix_len p (drop (16 * k) s)) =
    ap (prefix_len p) (chunk_at 16 count k s d l) ∙ prefix_take p 16 (drop (16 * k) s)
    in
    let rest = prefix_drop p (16 * k) s (omega arith) in (
      λ r. omega (arith, here, rest, eqb-true _ _ (sym q ∙ r)),
      λ r. omega (arith, here, rest, eqb-false _ _ (sym q ∙ r)),
    )
