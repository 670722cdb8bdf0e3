-- `frame::binary::judge_body` meets its contract: the payload is cut, the checksum is wrong, or the ending is left, by the footer.
-- Assumes nothing.
use Rattle.std.proofs.Common.{◌≡◌, ℕ, ◌+◌, true, false, eqb, get_or, take, drop, sym, ap, ◌∙◌, arith, eq-eqb, ne_eqb}
use native.Mathlib.Nat.{add-sub_cancel_left}
use Rattle.frame.specs.Binary.{xor_of, behind_checksum}
use Rattle.frame.specs.declared.framing.Footer.{Footer}
use Rattle.frame.specs.declared.framing.Format.TheVariants.{Binary}
use Rattle.frame.proofs.BinaryJudge.{body_short}
use Rattle.frame.proofs.Endings.{ending_at, ending_wrong, ending_complete, body_ending}
use Rattle.frame.proofs.binary.judge_body.Goals as goal

pub returns-then-s-end : goal.returns-then-s-end
returns-then-s-end c = body_short (behind_checksum c.args.footer) c.args.s.now c.args.len c.requires.in_bounds c.if-s-end.true

-- What is left behind the payload, by whether its checksum is right.
pub returns-then-xor_of-s : goal.returns-then-xor_of-s
returns-then-xor_of-s c =
    let s = c.args.s.now in
    let n = c.args.len in
    let rest = behind_checksum c.args.footer in
    let summed : c.xor_of.result ≡ xor_of (take n (drop 4 s)) = c.xor_of.ensures ∙ ap (λ (k : ℕ). xor_of (take k (drop 4 s))) (add-sub_cancel_left 4 n) in
    rw c.failed.ensures
    (body_ending rest s n (omega arith) false (ap (λ (x : ℕ). eqb x (get_or s (4 + n) 0)) (sym summed) ∙ ne_eqb _ _ c.if-xor_of-s.true)
    ∙ ending_wrong rest (take n (drop 4 s)) s (4 + n))

pub returns-in-Optional : goal.returns-in-Optional
returns-in-Optional c =
    let s = c.args.s.now in
    let n = c.args.len in
    let p = take n (drop 4 s) in
    let summed : c.xor_of.result ≡ xor_of p = c.xor_of.ensures ∙ ap (λ (k : ℕ). xor_of (take k (drop 4 s))) (add-sub_cancel_left 4 n) in
    body_ending (behind_checksum c.args.footer) s n (omega arith) true (ap (λ (x : ℕ). eqb x (get_or s (4 + n) 0)) (sym summed) ∙ eq-eqb _ _ c.if-xor_of-s.false)
    ∙ ap (λ (f : Footer). ending_at (behind_checksum f) p s (4 + n) true) c.in-Optional.is
    ∙ ending_complete p s (4 + n)

pub returns-in-Required : goal.returns-in-Required
returns-in-Required c =
    let s = c.args.s.now in
    let n = c.args.len in
    let p = take n (drop 4 s) in
    let summed : c.xor_of.result ≡ xor_of p = c.xor_of.ensures ∙ ap (λ (k : ℕ). xor_of (take k (drop 4 s))) (add-sub_cancel_left 4 n) in
    body_ending (behind_checksum c.args.footer) s n (omega arith) true (ap (λ (x : ℕ). eqb x (get_or s (4 + n) 0)) (sym summed) ∙ eq-eqb _ _ c.if-xor_of-s.false)
    ∙ ap (λ (f : Footer). ending_at (behind_checksum f) p s (4 + n) true) c.in-Required.is
    ∙ c.judge_ending.ensures (Binary c.args.footer)
