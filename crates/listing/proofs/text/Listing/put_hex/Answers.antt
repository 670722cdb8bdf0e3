-- `listing::text::Listing::put_hex` meets its contract: the digits have room, and are put behind what is written.
-- Assumes nothing.
use Rattle.std.proofs.Common.{◌≡◌, ◌∙◌, ◌-◌, ◌++◌, List, ℕ, true, nat_le, length, take, drop, refl, arith, rules, le-leb, length-take, length-drop}
use Rattle.std.proofs.lemmas.Grind.{common_steps}
use Rattle.frame.specs.Hex.{hex}
use Rattle.listing.proofs.Texts.{puts_copy, length_hex}
use Rattle.listing.proofs.text.Listing.put_hex.Goals as goal

pub overflow_add-self : goal.overflow_add-self
overflow_add-self c = omega (arith, length_hex c.args.bytes.now)

pub returns : goal.returns
returns c =
    let g = c.args.self.now in
    let s : List ℕ = hex c.args.bytes.now in
    let d : List ℕ = take (length g.out.now - g.lines.len) (drop g.lines.len g.out.now) in
    let size : length d ≡ length g.out.now - g.lines.len = simp (length-take, length-drop) (omega arith) in
    let fits : nat_le (length s) (length d) ≡ true = le-leb (length s) (length d) (omega (arith, c.requires, size)) in
    let new : c.encode_hex.new.dst ≡ s ++ drop (length s) d = c.encode_hex.ensures.dst_after ∙ simp fits refl in
    puts_copy c.requires (search rules) (grind (arith, common_steps, new)) (omega (arith, length_hex c.args.bytes.now)) (search rules) (search rules)
