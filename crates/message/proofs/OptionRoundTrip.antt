-- The bytes of options are read back as those options.
-- Assumes nothing.
use Rattle.std.specs.Prelude.{Option, Some, None}
use Prim.Native.Nat.{ℕ, ◌+◌}
use mathlib.Core.Path.{◌≡◌, refl, ap, ◌∙◌}
use mathlib.Core.List.{List, [], ◌++◌, append_assoc}
use mathlib.Core.Bool.{Bool, true, false}
use native.Mathlib.Nat.{add-zero}
use native.Mathlib.Omega.{arith}
use lib.ListN.{length, length-append}
use Rattle.message.specs.Options.{no_options, has_option, give_flag, word_or, is_option, retry_allowed, option_bytes}
use Rattle.message.specs.Options.{opted, option, expected_after, given_after, options_from, flag_bytes, retry_bytes, word_bytes}
use Rattle.message.specs.Claims.{WordFits, OptionsFit}
use Rattle.message.specs.declared.options.Options.{Options}
use Rattle.message.proofs.Numbers.{word_back}
use Rattle.message.proofs.OptionStrings.{at_end}

-- Options by their fields.
abbrev pub with : Bool → Option ℕ → Option ℕ → Option ℕ → Option ℕ → Bool → Bool → Bool → Options
with a r l u i p n s =
    record {
      mac_ack = a;
      retries = r;
      lower_delay = l;
      upper_delay = u;
      interval = i;
      parallel = p;
      no_response = n;
      sleep = s;
    }

-- The bytes b in front of a rest take the options from o to o', or end with the options o'.
pub record Takes (o : Options) (b : List ℕ) (o' : Options) : Type 0 where
  pub reads : (k : ℕ) (s : List ℕ) → options_from option o k (b ++ s) ≡ options_from option o' (k + length b) s

pub record Ends (o : Options) (b : List ℕ) (o' : Options) : Type 0 where
  pub reads : (k : ℕ) (s : List ℕ) → options_from option o k (b ++ s) ≡ opted o' (k + length b)

-- No bytes take nothing.
none : (o : Options) → Takes o [] o
none o = record { reads = λ k s. rw add-zero }

-- Two groups in a row.
pub and_then : {b c : List ℕ} {o o' o'' : Options} → Takes o b o' → Ends o' c o'' → Ends o (b ++ c) o''
and_then {b} {c} {o} {o'} {o''} f g =
    let place : (k : ℕ) → k + length b + length c ≡ k + length (b ++ c) = λ k. simp length-append (omega arith) in
    record {
      reads = λ k s.
          ap (options_from option o k) (append_assoc b c s)
          ∙ f.reads k (c ++ s)
          ∙ g.reads (k + length b) s
          ∙ ap (opted o'') (place k);
    }

two : (k : ℕ) → k + 1 + 1 ≡ k + 2
two k = omega arith

three : (k : ℕ) → k + 1 + 1 + 1 ≡ k + 3
three k = omega arith

-- Each group of the options gives its field, whatever the others are.
module _ {r : Option ℕ} {l u i : Option ℕ} {p n s : Bool} where
  pub ack : (a : Bool) → Takes (with false r l u i p n s) (flag_bytes 0x01 a) (with a r l u i p n s)
  unfolding options_from has_option is_option expected_after given_after give_flag
  ack true = record { reads = λ k s. refl }
  ack false = none (with false r l u i p n s)

module _ {a : Bool} {l u i : Option ℕ} {p n s : Bool} where
  pub retry : (r : Option ℕ) → retry_allowed r ≡ true → Takes (with a None l u i p n s) (retry_bytes r) (with a r l u i p n s)
  unfolding options_from has_option is_option expected_after given_after
  retry None h = none (with a None l u i p n s)
  retry (Some b) h = record { reads = λ k s. rw (h, two) }

module _ {a : Bool} {r : Option ℕ} {u i : Option ℕ} {p n s : Bool} where
  pub lower : (l : Option ℕ) → WordFits l → Takes (with a r None u i p n s) (word_bytes 0x03 l) (with a r l u i p n s)
  unfolding options_from has_option is_option expected_after given_after word_or
  lower None h = none (with a r None u i p n s)
  lower (Some v) h = record { reads = λ k s. rw (word_back v h, three) }

module _ {a : Bool} {r : Option ℕ} {l i : Option ℕ} {p n s : Bool} where
  pub upper : (u : Option ℕ) → WordFits u → Takes (with a r l None i p n s) (word_bytes 0x04 u) (with a r l u i p n s)
  unfolding options_from has_option is_option expected_after given_after word_or
  upper None h = none (with a r l None i p n s)
  upper (Some v) h = record { reads = λ k s. rw (word_back v h, three) }

module _ {a : Bool} {r : Option ℕ} {l u : Option ℕ} {p n s : Bool} where
  pub interval : (i : Option ℕ) → WordFits i → Takes (with a r l u None p n s) (word_bytes 0x05 i) (with a r l u i p n s)
  unfolding options_from has_option is_option expected_after given_after word_or
  interval None h = none (with a r l u None p n s)
  interval (Some v) h = record { reads = λ k s. rw (word_back v h, three) }

module _ {a : Bool} {r : Option ℕ} {l u i : Option ℕ} where
  pub parallel : {n s : Bool} (p : Bool) → Takes (with a r l u i false n s) (flag_bytes 0x06 p) (with a r l u i p n s)
  unfolding options_from has_option is_option expected_after given_after give_flag
  parallel true = record { reads = λ k s. refl }
  parallel {n} {s} false = none (with a r l u i false n s)

  pub silent : {p s : Bool} (n : Bool) → Takes (with a r l u i p false s) (flag_bytes 0x07 n) (with a r l u i p n s)
  unfolding options_from has_option is_option expected_after given_after give_flag
  silent true = record { reads = λ k s. refl }
  silent {p} {s} false = none (with a r l u i p false s)

  pub sleep : {p n : Bool} (s : Bool) → Takes (with a r l u i p n false) (flag_bytes 0x08 s) (with a r l u i p n s)
  unfolding options_from has_option is_option expected_after given_after give_flag
  sleep true = record { reads = λ k s. refl }
  sleep {p} {n} false = none (with a r l u i p n false)

-- And so all of them are read back, wherever they stand and whatever follows.
pub options_back : (o : Options) → OptionsFit o → retry_allowed o.retries ≡ true → Ends no_options (option_bytes o) o
unfolding option_bytes
options_back o fits allowed =
    and_then (ack o.mac_ack)
    (and_then (retry o.retries allowed)
    (and_then (lower o.lower_delay fits.1)
    (and_then (upper o.upper_delay fits.2)
    (and_then (interval o.interval fits.3)
    (and_then (parallel o.parallel)
    (and_then (silent o.no_response)
    (and_then (sleep o.sleep)
    (record { reads = at_end o }))))))))
