-- The ordered checks of a frame. Document 01, "Two framings": bytes are judged in order, and the first that fails gives the
-- refusal; if the bytes run out before a failure and before the end, the refusal is 2.
use Rattle.std.specs.Prelude.{ℕ, zero, suc, ◌+◌, ◌*◌, Bool, cond, List, [], ◌∷◌, ◌==◌}

-- A format as a tree of checks: take the next byte, refuse with a number, or accept a complete frame with its payload.
pub data Checks : Type 0 where
  next : (ℕ → Checks) → Checks
  fails : ℕ → Checks
  whole : List ℕ → Checks

-- The next byte is b, else refusal n; then t.
unfoldable pub byte : ℕ → ℕ → Checks → Checks
byte b n t = next (λ x. cond (x == b) t (fails n))

-- The last byte of a frame with the payload p is b (5).
unfoldable pub last_byte : ℕ → List ℕ → Checks
last_byte b p = byte b 5 (whole p)

-- The test holds, else refusal n; then t.
unfoldable pub test : Bool → ℕ → Checks → Checks
test holds n t = cond holds t (fails n)

-- The next two bytes are a big-endian number, handed to t.
unfoldable pub word : (ℕ → Checks) → Checks
word t = next (λ high. next (λ low. t (high * 256 + low)))

-- The next k bytes are handed to t.
unfoldable pub bytes : ℕ → (List ℕ → Checks) → Checks
bytes zero t = t []
bytes (suc k) t = next (λ b. bytes k (λ p. t (b ∷ p)))

-- What stands at the front of a list of bytes: cut short (2); refused, with the count of the bytes judged, the failing one the last, and
-- the number; or a frame, with the count of its bytes and its payload.
pub data Verdict : Type 0 where
  cut : Verdict
  refused : ℕ → ℕ → Verdict
  frame : ℕ → List ℕ → Verdict

-- The payload of a frame; where there is none, it is empty.
abbrev pub payload_in : Verdict → List ℕ
payload_in cut = []
payload_in (refused judged n) = []
payload_in (frame used p) = p

-- The verdict on bytes behind k others that were judged before.
abbrev pub behind : ℕ → Verdict → Verdict
behind k cut = cut
behind k (refused judged n) = refused (k + judged) n
behind k (frame used p) = frame (k + used) p

-- The checks in order over a list of bytes.
abbrev pub run : Checks → List ℕ → Verdict
run (fails n) s = refused 0 n
run (whole p) s = frame 0 p
run (next t) [] = cut
run (next t) (b ∷ s) = behind 1 (run (t b) s)
