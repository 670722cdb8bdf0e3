-- What is claimed of settings lists: that they are known identifiers, none of them twice, each followed by data of its width, and nothing else; and that a
-- walk gives these. proofs/Theorems.antt proves each claim.
use Rattle.std.specs.Prelude.{ℕ, ◌+◌, ◌≤◌, ◌≡◌, true, false, List, [], ◌∷◌, ◌++◌, map, length, take, drop}
use Rattle.settings.specs.List.{widths, width_of, among, is_list}
use Rattle.settings.specs.Walk.{settings_of}
use Rattle.settings.specs.declared.walk.Setting.{Setting}

-- No identifier stands twice.
abbrev pub Distinct : List ℕ → Type 0
Distinct [] = Unit {0}
Distinct (id ∷ ids) = (among ids id ≡ false) × Distinct ids

-- The table of widths has each identifier once and no width of 0: so the width of each is the one beside it, and 0 stands for unknown identifiers alone.
pub record TableIsRead : Type 0 where
  pub once : Distinct (map (λ (w : ℕ × ℕ). w.0) widths)
  pub beside : map (λ (w : ℕ × ℕ). width_of w.0) widths ≡ map (λ (w : ℕ × ℕ). w.1) widths
  pub no_zero : among (map (λ (w : ℕ × ℕ). w.1) widths) 0 ≡ false

-- Identifiers with their data, joined one after another.
abbrev pub joined : List (ℕ × List ℕ) → List ℕ
joined [] = []
joined (v ∷ vs) = v.0 ∷ (v.1 ++ joined vs)

-- Each identifier is known, and its data have its width.
abbrev pub Known : List (ℕ × List ℕ) → Type 0
Known [] = Unit {0}
Known (v ∷ vs) = (width_of v.0 ≡ 0 → ⊥) × (length v.1 ≡ width_of v.0) × Known vs

-- The identifiers.
abbrev pub identifiers : List (ℕ × List ℕ) → List ℕ
identifiers [] = []
identifiers (v ∷ vs) = v.0 ∷ identifiers vs

-- Each setting lies inside the list s.
abbrev pub Inside : List ℕ → List Setting → Type 0
Inside s [] = Unit {0}
Inside s (x ∷ xs) = (x.start + x.len ≤ length s) × Inside s xs

-- Where settings lie that are joined from index `at` on: the data of each begin behind its identifier, and the next begins behind them.
abbrev pub laid : ℕ → List (ℕ × List ℕ) → List Setting
laid at [] = []
laid at (v ∷ vs) = record { identifier = v.0; start = at + 1; len = length v.1 } ∷ laid (at + 1 + length v.1) vs

-- The identifiers with their data that settings of the list s stand for.
abbrev pub values : List ℕ → List Setting → List (ℕ × List ℕ)
values s [] = []
values s (x ∷ xs) = (x.identifier, take x.len (drop x.start s)) ∷ values s xs

-- A list is what its walk gives: each setting lies inside the list, one behind another from its front on; identifiers are known and stand once, data have
-- their width, and joined they are the list.
pub record ListIsItsSettings : Type 0 where
  pub inside : (s : List ℕ) → is_list s ≡ true → Inside s (settings_of s)
  pub places : (s : List ℕ) → is_list s ≡ true → settings_of s ≡ laid 0 (values s (settings_of s))
  pub known : (s : List ℕ) → is_list s ≡ true → Known (values s (settings_of s))
  pub distinct : (s : List ℕ) → is_list s ≡ true → Distinct (identifiers (values s (settings_of s)))
  pub whole : (s : List ℕ) → is_list s ≡ true → joined (values s (settings_of s)) ≡ s

-- And all such identifiers with data, in any order and none of them too, are a list, whose walk gives them back.
pub record SettingsAreAList : Type 0 where
  pub is_one : (vs : List (ℕ × List ℕ)) → Known vs → Distinct (identifiers vs) → is_list (joined vs) ≡ true
  pub back : (vs : List (ℕ × List ℕ)) → Known vs → Distinct (identifiers vs) → values (joined vs) (settings_of (joined vs)) ≡ vs

-- FF alone is no list, so that the module's failure is none.
abbrev pub FailureIsNoList : Type 0
FailureIsNoList = is_list (0xFF ∷ []) ≡ false
