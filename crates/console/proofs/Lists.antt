-- Laws on lists.
-- Assumes nothing.
use Rattle.std.proofs.Common.{◌≡◌, sym, subst, ◌∙◌, zero-add, ℕ, zero, suc, ◌+◌, ◌<◌, List, [], ◌∷◌, length, get_or, set, drop, add-one, arith}
use Rattle.std.proofs.Math.Seq.{paste, drop-nil}
use Rattle.std.proofs.lemmas.List.Edits.{paste_more}

-- Where b and then r are left of a list behind its first n elements, b is the element at n, and r is left behind one more.
pub behind_is : (l : List ℕ) (n b : ℕ) (r : List ℕ) → drop n l ≡ b ∷ r → (n < length l) × (get_or l n 0 ≡ b) × (drop (n + 1) l ≡ r)
behind_is [] n b r e = absurd (let z : ◌≡◌ {A = List ℕ} [] (b ∷ r) = sym (drop-nil n) ∙ e in let o : ◌≡◌ {A = ℕ} 0 1 = cc in omega arith)
behind_is (a ∷ l) zero b r e = (omega arith, (cc), (cc))
behind_is (a ∷ l) (suc n) b r e = let h = behind_is l n b r e in (omega arith, h.1, rw add-one (rw add-one at h.2))

-- One more element copied to the front.
pub front_next : (d s : List ℕ) (i a : ℕ) → i < length d → i < length s → get_or s i 0 ≡ a → set (paste d 0 s i) i a ≡ paste d 0 s (i + 1)
front_next d s i a h k e =
    rw (← e) (subst (λ (n : ℕ). set (paste d 0 s i) n (get_or s i 0) ≡ paste d 0 s (i + 1)) (zero-add i) (paste_more d 0 s i 0 (omega arith) k))
