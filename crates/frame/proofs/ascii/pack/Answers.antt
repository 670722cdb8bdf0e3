-- `frame::ascii::pack` meets its contract: what is written grows from the front, by the colon, the digits of the payload, those of the checksum,
-- and CR LF, and is then the published layout.
-- Assumes nothing.
use Rattle.std.proofs.Common.{◌≡◌, ℕ, ◌+◌, ◌*◌, ◌/◌, ◌%◌, ◌<◌, List, [], ◌∷◌, ◌++◌, length, drop, set, sym, refl, arith, length-append, length-set}
use lib.Seq.{paste}
use Rattle.frame.specs.Digit.{digit_of}
use Rattle.frame.specs.Hex.{hex}
use Rattle.frame.specs.Ascii.{colon, carriage_return, line_feed, checksum_of, ascii_front, ascii_ending}
use Rattle.frame.specs.Framing.{in_front, layout}
use Rattle.frame.specs.declared.framing.Framing.TheVariants.{Ascii}
use Rattle.frame.proofs.Lists.{wrote_one, wrote_two, wrote_many}
use Rattle.frame.proofs.HexLaws.{length_hex}
use Rattle.frame.proofs.AsciiLaws.{ascii_front_is, length_ascii_front}
use Rattle.frame.proofs.ascii.pack.Goals as goal

-- The colon and the digits of the payload.
front : (p d : List ℕ) (end : ℕ) → 1 + 2 * length p ≡ end → end < length d
    → paste (set d 0 colon) 1 (hex p) (2 * length p) ≡ (colon ∷ hex p) ++ drop end d
front p d end e h =
    let long : 2 * length p ≡ length (hex p) = sym (length_hex p) in
    let behind : end ≡ 1 + length (hex p) = omega arith in
    rw (wrote_one [] d colon 0 refl (omega arith), long, behind) (wrote_many (colon ∷ []) (hex p) d 1 refl (omega arith))

-- All stores in a row.
stores : (p d : List ℕ) (end : ℕ) → 1 + 2 * length p ≡ end → end + 3 < length d
    → set (set (set (set (paste (set d 0 colon) 1 (hex p) (2 * length p)) end (digit_of (checksum_of p / 16)))
    (end + 1) (digit_of (checksum_of p % 16))) (end + 2) carriage_return) (end + 3) line_feed
    ≡ in_front (layout Ascii p) d
stores p d end e h =
    let w : List ℕ = colon ∷ hex p in
    let long : length w ≡ end = omega (arith, length_hex p) in
    let b : ℕ = checksum_of p in
    let three : end + 3 ≡ end + 2 + 1 = omega arith in
    let four : length (layout Ascii p) ≡ end + 2 + 2 = omega (arith, length-append (ascii_front p) ascii_ending, length_ascii_front p) in
    rw (front p d end e (omega arith), wrote_two w d (digit_of (b / 16)) (digit_of (b % 16)) end long (omega arith), three)
    (rw (wrote_two (w ++ hex (b ∷ [])) d carriage_return line_feed (end + 2) (simp length-append (omega arith)) (omega arith), four, ascii_front_is))

pub encode-requires : goal.encode-requires
encode-requires c = simp length-set (omega arith)

pub put_hex-requires : goal.put_hex-requires
put_hex-requires c = omega (arith, length-set c.args.buf.now 0 colon)

pub bounds-buf-end : goal.bounds-buf-end
bounds-buf-end c =
    let kept : length c.put_hex.new.dst ≡ length c.args.buf.now = omega (arith, length-set c.args.buf.now 0 colon) in
    omega (arith, kept)

pub bounds-buf-end-2 : goal.bounds-buf-end-2
bounds-buf-end-2 c =
    let kept : length c.put_hex.new.dst ≡ length c.args.buf.now = omega (arith, length-set c.args.buf.now 0 colon) in
    simp length-set (omega (arith, kept))

pub shape_of-buf : goal.shape_of-buf
shape_of-buf c =
    let kept : length c.put_hex.new.dst ≡ length c.args.buf.now = omega (arith, length-set c.args.buf.now 0 colon) in
    simp length-set (kept)

pub returns : goal.returns
returns c =
    let check : c.wrapping_neg-checksum.result ≡ checksum_of c.args.p.now =
    omega (arith, c.wrapping_neg-checksum.ensures, c.wrapping_neg-checksum.type_inv, c.byte_sum.ensures) in
    cc (check, stores c.args.p.now c.args.buf.now (1 + 2 * length c.args.p.now) refl (omega arith))
