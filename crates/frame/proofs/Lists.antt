-- Laws on lists that no library has.
-- Assumes nothing.
use Rattle.std.proofs.Common.{◌≡◌, ℕ, zero, suc, ◌+◌, ◌-◌, ◌<◌, ◌≤◌, min, List, [], ◌∷◌, ◌++◌, length, get_or, take, drop, set, sym, refl, ap, ◌∙◌, le_refl, le_of_lt, zero-add, add-one, arith, length-append, length-drop, length-take-le, take_all, drop-cons, take-suc, take-take, drop-drop, take_at, take-add}
use mathlib.Core.List.{drop_last}
use native.Mathlib.Nat.{sub-zero, zero-sub, suc-sub-suc, min-zero, suc-min-suc}
use native.Mathlib.Numerals.{add-two}
use lib.Seq.{paste, take-append-le, take-nil, set_at, append_snoc}
use lib.Seq.{take-length, drop-append-add}
use Rattle.frame.specs.Elements.{Bytes}

-- A store just behind what is written makes it one longer.
pub wrote_one : (w d : List ℕ) (a k : ℕ) → length w ≡ k → k < length d → set (w ++ drop k d) k a ≡ (w ++ (a ∷ [])) ++ drop (suc k) d
wrote_one w d a k e h = rw (drop-cons d k 0, append_snoc, set_at w _ _ a k e)

-- Two stores just behind what is written make it two longer.
pub wrote_two : (w d : List ℕ) (a b k : ℕ) → length w ≡ k → k + 1 < length d → set (set (w ++ drop k d) k a) (k + 1) b ≡ (w ++ (a ∷ b ∷ [])) ++ drop (k + 2) d
wrote_two w d a b k e h =
    rw (wrote_one w d a k e (omega arith), add-one, add-two)
    (rw (wrote_one (w ++ (a ∷ [])) d b (suc k) (simp length-append (omega arith)) (omega arith), append_snoc w a (b ∷ [])))

-- A copy just behind what is written makes it longer by what is copied.
pub wrote_many : (w s d : List ℕ) (k : ℕ) → length w ≡ k → k + length s ≤ length d → paste (w ++ drop k d) k s (length s) ≡ (w ++ s) ++ drop (k + length s) d
wrote_many w s d k e h = rw (take_at w _ k e, take-length, ← e, drop-append-add, drop-drop)

-- What is left of a list begins with the element there.
pub drop_next : (s : List ℕ) (i : ℕ) → i < length s → drop i s ≡ get_or s i 0 ∷ drop (i + 1) s
drop_next s i h = rw add-one (drop-cons s i 0 h)

-- A store of the next element of s, where d begins with the elements before it.
pub wrote_next : (s d : List ℕ) (k : ℕ) → k < length s → k < length d → set (take k s ++ drop k d) k (get_or s k 0) ≡ take (k + 1) s ++ drop (k + 1) d
wrote_next s d k h l = rw (add-one, take-suc s k 0 h) (wrote_one (take k s) d (get_or s k 0) k (length-take-le k s (le_of_lt h)) l)

-- The parts of a list of bytes are bytes.
pub bytes_left : (s t : List ℕ) → Bytes (s ++ t) → Bytes s
bytes_left [] t h = tt
bytes_left (b ∷ s) t h = (h.0, bytes_left s t h.1)

pub bytes_right : (s t : List ℕ) → Bytes (s ++ t) → Bytes t
bytes_right [] t h = h
bytes_right (b ∷ s) t h = bytes_right s t h.1

-- All elements but the last.
pub drop_last_take : (s : List ℕ) → drop_last s ≡ take (length s - 1) s
drop_last_take [] = refl
drop_last_take (a ∷ []) = refl
drop_last_take (a ∷ b ∷ s) = let one : length (a ∷ b ∷ s) - 1 ≡ suc (length (b ∷ s) - 1) = omega arith in rw (one, drop_last_take (b ∷ s))

-- A list that is not empty is all elements but the last, and the last.
pub drop_last_snoc : (s : List ℕ) → 1 ≤ length s → s ≡ drop_last s ++ (get_or s (length s - 1) 0 ∷ [])
drop_last_snoc s h =
    let all : length s ≡ suc (length s - 1) = omega arith in
    sym (take-length s) ∙ ap (λ (n : ℕ). take n s) all ∙ take-suc s (length s - 1) 0 (omega arith) ∙ rw drop_last_take

-- All elements but a last one that was added.
pub drop_last_of : (s : List ℕ) (a : ℕ) → drop_last (s ++ (a ∷ [])) ≡ s
drop_last_of s a = rw drop_last_take (take_at s (a ∷ []) (length (s ++ (a ∷ [])) - 1) (simp length-append (omega arith)))

-- Two lists of bytes in a row are bytes.
pub bytes_append : (s t : List ℕ) → Bytes s → Bytes t → Bytes (s ++ t)
bytes_append [] t h k = k
bytes_append (b ∷ s) t h k = (h.0, bytes_append s t h.1 k)

-- A part of a list from a place to the end is what is left there.
pub take_rest : (s : List ℕ) (i : ℕ) → take (length s - i) (drop i s) ≡ drop i s
take_rest s i = take_all (length s - i) (drop i s) (simp length-drop (omega arith))

-- A copy of a whole list to the front.
pub paste_front : (d s : List ℕ) → paste d 0 s (length s) ≡ s ++ drop (length s) d
paste_front d s = rw (take-length, zero-add)

-- What was copied to the front stands there.
pub front_of_paste : (d s : List ℕ) → take (length s) (paste d 0 s (length s)) ≡ s
front_of_paste d s = ap (take (length s)) (paste_front d s) ∙ take_at s (drop (length s) d) (length s) refl

-- The front of at most k elements, counted first.
pub take_least : (s : List ℕ) (k : ℕ) → take (min (length s) k) s ≡ take k s
take_least [] zero = refl
take_least [] (suc k) = take-nil (min 0 (suc k))
take_least (a ∷ s) zero = rw (min-zero (suc (length s)))
take_least (a ∷ s) (suc k) = rw (suc-min-suc (length s) k) (ap (λ (l : List ℕ). a ∷ l) (take_least s k))

-- The rest of a front.
pub drop_take : (k m : ℕ) (s : List ℕ) → drop k (take m s) ≡ take (m - k) (drop k s)
drop_take zero m s = rw sub-zero
drop_take (suc k) zero s = rw zero-sub
drop_take (suc k) (suc m) [] = sym (take-nil (suc m - suc k))
drop_take (suc k) (suc m) (b ∷ s) = rw suc-sub-suc (drop_take k m s)

-- A copy of n elements of s from k on, where d begins with the elements of s before i.
pub wrote_part :
    (s d : List ℕ) (k n i : ℕ) → k ≤ i → i ≤ k + n → k + n ≤ length s →
    paste (take i s ++ drop i d) k (take n (drop k s)) n ≡ take (k + n) s ++ drop (k + n) d
wrote_part s d k n i h l m =
    let long : length (take i s) ≡ i = length-take-le i s (omega arith) in
    let behind : k + n ≡ length (take i s) + (k + n - i) = omega arith in
    let there : i + (k + n - i) ≡ k + n = omega arith in
    let rest : drop (k + n) (take i s ++ drop i d) ≡ drop (k + n) d =
    ap (λ (j : ℕ). drop j (take i s ++ drop i d)) behind
    ∙ drop-append-add (take i s) (drop i d) (k + n - i)
    ∙ drop-drop (k + n - i) i d
    ∙ ap (λ (j : ℕ). drop j d) there
    in
    rw (take-append-le k (take i s) (drop i d) (omega arith), take-take k i s h, take-take n n (drop k s) (le_refl n), ← take-add k n s, rest)
