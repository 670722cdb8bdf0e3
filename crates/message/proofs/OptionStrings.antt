-- What an option string that is read is made of.
-- Assumes nothing.
use Rattle.std.specs.Prelude.{Option, Some, None, is_some}
use Prim.Native.Nat.{ℕ, zero, suc, ◌+◌, ◌-◌, ◌*◌, ◌≤◌}
use mathlib.Core.Bool.{and-eq-true_iff}
use mathlib.Core.Path.{◌≡◌, refl, sym, ap, subst, ◌∙◌}
use mathlib.Core.List.Permᴰ
use mathlib.Core.List.Permᴰ.{trans}
use mathlib.Core.List.{List, [], ◌∷◌, ◌++◌, Permᴰ as Permutation}
use mathlib.Core.Bool.{Bool, true, false, true≢false}
use native.Mathlib.Omega.{arith}
use lib.Dec.{leb, eqb}
use lib.ListN.{length, drop, length-append, length-drop}
use lib.Seq.{drop-append_seam, drop-drop}
use borrow.Author.Tests.{leb-true, eqb-true}
use Rattle.frame.specs.Elements.{Bytes}
use Rattle.message.specs.Number.{bytes2}
use Rattle.message.specs.Options.{no_options, has_option, give_flag, give_retries, word_or, give_word, is_retry, is_option, retry_allowed}
use Rattle.message.specs.Options.{bad, opted, Expected, option, retry_byte, first_of, second_of, expected_after, given_after, options_from}
use Rattle.message.specs.Options.{flag_bytes, retry_bytes, word_bytes, option_bytes, option_groups, option_string}
use Rattle.message.specs.declared.options.Options.{Options}
use Rattle.message.proofs.Numbers.{choose}
use Rattle.message.proofs.Lists.{word_bytes_lem}
use Rattle.message.proofs.OptionGroups.{full, empty, completed, with_empty, filled, one_more_lem, as_long}

-- The group of an option that is not given is empty.
flag_empty : (id : ℕ) (b : Bool) → b ≡ false → flag_bytes id b ≡ []
flag_empty id true e = absurd (true≢false e)
flag_empty id false e = refl

byte_empty : (r : Option ℕ) → is_some r ≡ false → retry_bytes r ≡ []
byte_empty None e = refl
byte_empty (Some b) e = absurd (true≢false e)

word_empty : (id : ℕ) (w : Option ℕ) → is_some w ≡ false → word_bytes id w ≡ []
word_empty id None e = refl
word_empty id (Some v) e = absurd (true≢false e)

-- With the group g more, the options o are the options `given`.
abbrev Adds : Options → List ℕ → Options → Type 0
Adds o g given = Permutation (g ∷ full (option_groups o)) (full (option_groups given))

-- The bytes of an option that were read when this is expected.
abbrev begun : Expected → List ℕ
begun option = []
begun retry_byte = 0x02 ∷ []
begun (first_of id) = id ∷ []
begun (second_of id a) = id ∷ a ∷ []

-- The option whose argument is expected is not given yet: its argument adds its group.
abbrev Open : Expected → Options → Type 0
Open option o = Unit {0}
Open retry_byte o = (b : ℕ) → Adds o (0x02 ∷ b ∷ []) (give_retries o b)
Open (first_of id) o = (v : ℕ) → Adds o (id ∷ bytes2 v) (give_word o id v)
Open (second_of id a) o = (v : ℕ) → Adds o (id ∷ bytes2 v) (give_word o id v)

-- The front of s is an option string, or the rest of one, behind the options `given`; it gives the options o and ends before `end`: the groups
-- of the options that it adds one behind another, with a retry byte that is allowed.
pub record Encoded (e : Expected) (given : Options) (at : ℕ) (s : List ℕ) (o : Options) (end : ℕ) : Type 0 where
  pub string : List ℕ
  pub rest : List ℕ
  pub split : s ≡ string ++ rest
  pub ends : end ≡ at + length string
  pub groups : List (List ℕ)
  pub long : length (begun e ++ string) ≡ length (option_string groups)
  pub bytes : Bytes (begun e ++ string) → begun e ++ string ≡ option_string groups
  pub order : Permutation (groups ++ full (option_groups given)) (full (option_groups o))
  pub allowed : retry_allowed o.retries ≡ true

module _ (e : Expected) (given : Options) (b : ℕ) {at : ℕ} {s : List ℕ} {o : Options} {end : ℕ} where
  -- One byte more of an option that is begun.
  goes_on : (e' : Expected) → ((l : List ℕ) → begun e ++ (b ∷ l) ≡ begun e' ++ l) → Encoded e' given (at + 1) s o end →
      Encoded e given at (b ∷ s) o end
  goes_on e' same r =
      record {
        string = b ∷ r.string;
        rest = r.rest;
        split = ap (λ l. b ∷ l) r.split;
        ends = r.ends ∙ omega arith;
        groups = r.groups;
        long = ap length (same r.string) ∙ r.long;
        bytes = λ h. same r.string ∙ r.bytes (subst Bytes (same r.string) h);
        order = r.order;
        allowed = r.allowed;
      }

  -- The last byte of an option: its group is added.
  gives : (g : List ℕ) (given' : Options) → ((l : List ℕ) → length (begun e ++ (b ∷ l)) ≡ length g + length l) →
      ((l : List ℕ) → Bytes (begun e ++ (b ∷ l)) → (begun e ++ (b ∷ l) ≡ g ++ l) × Bytes l) → Adds given g given' →
      Encoded option given' (at + 1) s o end → Encoded e given at (b ∷ s) o end
  gives g given' sized same adds r =
      record {
        string = b ∷ r.string;
        rest = r.rest;
        split = ap (λ l. b ∷ l) r.split;
        ends = r.ends ∙ omega arith;
        groups = g ∷ r.groups;
        long = omega (arith, sized r.string, r.long, length-append g (option_string r.groups));
        bytes = λ h. let q : (begun e ++ (b ∷ r.string) ≡ g ++ r.string) × Bytes r.string = same r.string h in
            q.0 ∙ ap (λ l. g ++ l) (r.bytes q.1);
        order = one_more_lem g r.groups adds r.order;
        allowed = r.allowed;
      }

-- What follows an option: its argument, or the next option where it has none.
record Follows (o : Options) (id : ℕ) (e : Expected) (given : Options) : Type 0 where
  free : Open e given
  retries : given.retries ≡ o.retries
  extends : {at : ℕ} {s : List ℕ} {all : Options} {end : ℕ} → Encoded e given (at + 1) s all end → Encoded option o at (id ∷ s) all end

flag_follows : (o : Options) (id : ℕ) (given : Options) → given.retries ≡ o.retries → Adds o (id ∷ []) given → Follows o id option given
flag_follows o id given kept adds =
    record { free = tt; retries = kept; extends = gives option o id (id ∷ []) given (λ l. omega arith) (λ l h. (refl, h.1)) adds }

argument_follows : (o : Options) (id : ℕ) (e : Expected) → ((l : List ℕ) → id ∷ l ≡ begun e ++ l) → Open e o → Follows o id e o
argument_follows o id e same free = record { free = free; retries = refl; extends = goes_on option o id e same }

-- What holds of 1 to 8 holds of each number there.
one_to_eight : (P : ℕ → Type 0) → P 1 → P 2 → P 3 → P 4 → P 5 → P 6 → P 7 → P 8 → (n : ℕ) → 1 ≤ n → n ≤ 8 → P n
one_to_eight P a b c d e f g h zero low high = absurd (omega arith)
one_to_eight P a b c d e f g h (suc zero) low high = a
one_to_eight P a b c d e f g h (suc (suc zero)) low high = b
one_to_eight P a b c d e f g h (suc (suc (suc zero))) low high = c
one_to_eight P a b c d e f g h (suc (suc (suc (suc zero)))) low high = d
one_to_eight P a b c d e f g h (suc (suc (suc (suc (suc zero))))) low high = e
one_to_eight P a b c d e f g h (suc (suc (suc (suc (suc (suc zero)))))) low high = f
one_to_eight P a b c d e f g h (suc (suc (suc (suc (suc (suc (suc zero))))))) low high = g
one_to_eight P a b c d e f g h (suc (suc (suc (suc (suc (suc (suc (suc zero)))))))) low high = h
one_to_eight P a b c d e f g h (suc (suc (suc (suc (suc (suc (suc (suc (suc n))))))))) low high = absurd (omega arith)

-- Each option that is not given yet is followed so.
follows : (o : Options) (id : ℕ) → is_option id ≡ true → has_option o id ≡ false → Follows o id (expected_after id) (given_after o id)
unfolding is_option has_option expected_after given_after give_flag word_or
follows o id known =
    let both = (and-eq-true_iff (leb 0x01 id) (leb id 0x08)).0 known in
    let gs : List (List ℕ) = option_groups o in
    one_to_eight
    (λ id. has_option o id ≡ false → Follows o id (expected_after id) (given_after o id))
    (λ h. flag_follows o 1 (give_flag o 1) refl (filled gs 0 1 [] (flag_empty 1 o.mac_ack h)))
    (λ h. argument_follows o 2 retry_byte (λ l. refl) (λ b. filled gs 1 2 (b ∷ []) (byte_empty o.retries h)))
    (λ h. argument_follows o 3 (first_of 3) (λ l. refl) (λ v. filled gs 2 3 (bytes2 v) (word_empty 3 o.lower_delay h)))
    (λ h. argument_follows o 4 (first_of 4) (λ l. refl) (λ v. filled gs 3 4 (bytes2 v) (word_empty 4 o.upper_delay h)))
    (λ h. argument_follows o 5 (first_of 5) (λ l. refl) (λ v. filled gs 4 5 (bytes2 v) (word_empty 5 o.interval h)))
    (λ h. flag_follows o 6 (give_flag o 6) refl (filled gs 5 6 [] (flag_empty 6 o.parallel h)))
    (λ h. flag_follows o 7 (give_flag o 7) refl (filled gs 6 7 [] (flag_empty 7 o.no_response h)))
    (λ h. flag_follows o 8 (give_flag o 8) refl (filled gs 7 8 [] (flag_empty 8 o.sleep h)))
    id
    (leb-true 1 id both.0)
    (leb-true id 8 both.1)

-- The two bytes of an argument are those of its number.
word_same : (id a b : ℕ) (l : List ℕ) → Bytes (id ∷ a ∷ b ∷ l) → (id ∷ a ∷ b ∷ l ≡ (id ∷ bytes2 (a * 256 + b)) ++ l) × Bytes l
word_same id a b l h = (cc (word_bytes_lem a b h.1.0 h.1.1.0), h.1.1.1)

-- FF ends an option string.
pub at_end : (given : Options) (k : ℕ) (s : List ℕ) → options_from option given k (0xFF ∷ s) ≡ opted given (k + 1)
unfolding options_from
at_end given k s = refl

-- What is bad gives no options.
pub never : {A : Type 0} {o : Options} {end : ℕ} → bad ≡ opted o end → A
never e = absurd (cc)

-- A string of just FF.
ended : (given : Options) (at id : ℕ) (s : List ℕ) (o : Options) (end : ℕ) → retry_allowed given.retries ≡ true → id ≡ 0xFF →
    opted given (at + 1) ≡ opted o end → Encoded option given at (id ∷ s) o end
ended given at id s o end allowed ff e =
    let same : given ≡ o = cc in
    record {
      string = id ∷ [];
      rest = s;
      split = refl;
      ends = cc;
      groups = [];
      long = refl;
      bytes = λ h. ap (λ b. b ∷ []) ff;
      order = subst (λ g. Permutation (full (option_groups given)) (full (option_groups g))) same (Permᴰ.refl (full (option_groups given)));
      allowed = subst (λ g. retry_allowed g.retries ≡ true) same allowed;
    }

-- Whatever is read as an option string is one.
pub encoded : (s : List ℕ) (e : Expected) (given : Options) (at : ℕ) (o : Options) (end : ℕ) → Open e given →
    retry_allowed given.retries ≡ true → options_from e given at s ≡ opted o end → Encoded e given at s o end
unfolding options_from
encoded [] e given at o end free allowed r = never r
encoded (id ∷ s) option given at o end free allowed r =
    choose (eqb id 0xFF) r (λ ff ends. ended given at id s o end allowed (eqb-true id 0xFF ff) ends)
    (λ other goes.
    choose (has_option given id) goes (λ has wrong. never wrong)
    (λ new on.
    choose (is_option id) on
    (λ known rest.
    let f = follows given id known new in
    f.extends (encoded s (expected_after id) (given_after given id) (at + 1) o end f.free
    (subst (λ x. retry_allowed x ≡ true) (sym f.retries) allowed) rest))
    (λ unknown wrong. never wrong)))
encoded (b ∷ s) retry_byte given at o end free allowed r =
    choose (is_retry b) r
    (λ retry rest.
    gives retry_byte given b (0x02 ∷ b ∷ []) (give_retries given b) (λ l. omega arith) (λ l h. (refl, h.1.1)) (free b)
    (encoded s option (give_retries given b) (at + 1) o end tt retry rest))
    (λ bare wrong. never wrong)
encoded (a ∷ s) (first_of id) given at o end free allowed r =
    goes_on (first_of id) given a (second_of id a) (λ l. refl) (encoded s (second_of id a) given (at + 1) o end free allowed r)
encoded (b ∷ s) (second_of id a) given at o end free allowed r =
    let v : ℕ = a * 256 + b in
    gives (second_of id a) given b (id ∷ bytes2 v) (give_word given id v) (λ l. omega arith) (word_same id a b) (free v)
    (encoded s option (give_word given id v) (at + 1) o end tt allowed r)

-- What is behind an option string is what is left from its end on.
pub left_behind : (p : List ℕ) (at : ℕ) {o : Options} {end : ℕ} (r : Encoded option no_options at (drop at p) o end) →
    drop at p ≡ r.string ++ drop end p
left_behind p at {o} {end} r =
    let rest : drop (length r.string) (drop at p) ≡ r.rest =
    ap (drop (length r.string)) r.split ∙ drop-append_seam r.string r.rest in
    r.split ∙ ap (λ l. r.string ++ l) (sym rest ∙ drop-drop (length r.string) at p ∙ ap (λ n. drop n p) (sym r.ends))

-- All groups of the options: those of a whole string, and empty ones.
module _ {at : ℕ} {s : List ℕ} {o : Options} {end : ℕ} (r : Encoded option no_options at s o end) where
  abbrev pub all_groups : List (List ℕ)
  all_groups = r.groups ++ empty (option_groups o)

  pub in_order : Permutation all_groups (option_groups o)
  in_order = completed (trans (Permᴰ.symm (Permᴰ.append-nil r.groups)) r.order)

  -- The string is made of them.
  pub made_of : Bytes r.string → r.string ≡ option_string all_groups
  made_of h = r.bytes h ∙ sym (with_empty r.groups (option_groups o))

  -- And it is as long as the options written.
  pub as_written : length r.string ≡ length (option_bytes o)
  unfolding option_bytes
  as_written = r.long ∙ ap length (sym (with_empty r.groups (option_groups o))) ∙ as_long in_order

-- And it ends inside the payload, or at its end.
pub ends_inside : (p : List ℕ) (at : ℕ) {o : Options} {end : ℕ} → at ≤ length p → Encoded option no_options at (drop at p) o end →
    end ≤ length p
ends_inside p at h r =
    let long : length p - at ≡ length r.string + length r.rest =
    sym (length-drop at p) ∙ ap length r.split ∙ length-append r.string r.rest in
    omega (arith, r.ends)
