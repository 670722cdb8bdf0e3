-- The promises of the single-frame calls at each of their ways out.
-- Assumes nothing.
use Rattle.std.proofs.Common.{◌≡◌, ℕ, ◌<◌, ◌+◌, ◌≤◌, drop, ap₂, Bool, true, false, cond, ◌&&◌, leb, ◌⊎◌, List, length, sym, ap, ◌∙◌, inl, inr, ⊎_elim, arith, le-leb}
use Rattle.std.specs.Prelude.{Result, Ok, Err}
use borrow.Author.Tests.{lt-leb}
use Rattle.frame.specs.Checks.{Verdict, frame}
use Rattle.frame.specs.Framing.{judge, read, layout, in_front, is_open, absorbed}
use Rattle.frame.specs.Judged.{verdict_of, payload_at, payload_end, bytes_at}
use Rattle.frame.specs.Single.{no_reading, reading_of, reading, read_into, Reads, no_writing, writable, Writes, frame_reading, length_writing}
use Rattle.frame.specs.declared.framing.Framing.{Framing}
use Rattle.frame.specs.declared.framing.Format.{Format}
use Rattle.frame.specs.declared.refusal.Refusal.{Refusal}
use Rattle.frame.specs.declared.refusal.Refusal.TheVariants.{Buffer, Payload}
use Rattle.frame.specs.declared.framing.Judged.{Judged}
use Rattle.frame.specs.declared.framing.Judged.TheVariants.{Frame}
use Rattle.frame.specs.declared.single.FrameRead.{FrameRead}
use Rattle.frame.specs.Parts.{frame_length}
use Rattle.frame.proofs.Framings.{length_layout, used_there, PayloadNamed, payload_named}
use Rattle.frame.proofs.Optional.{behind_frame, read_judged}
use Rattle.frame.proofs.Numbers.{and_true, and_fails}

module _ (f : Format) (s buf : List ℕ) where
  -- The verdict decides the promise.
  reads_by : (v : Verdict) (a : Result FrameRead Refusal) (after : List ℕ) → read f s ≡ v →
      reading_of a ≡ reading v (length buf) → after ≡ read_into v buf → Reads f s buf a after
  reads_by v a after e h k =
      record { answers = h ∙ ap (λ (w : Verdict). reading w (length buf)) (sym e); leaves = k ∙ ap (λ (w : Verdict). read_into w buf) (sym e) }

-- A frame that was judged, whose payload the answer names by its place and length.
module _ (f : Format) (s : List ℕ) (r : Judged) (used len : ℕ) (e : judge f s ≡ verdict_of f s r) (is : r ≡ Frame used len) where
  found : judge f s ≡ frame used (payload_at f s len)
  found = e ∙ ap (verdict_of f s) is

  named : PayloadNamed f s len
  named = payload_named f s used len found

  -- Its payload and all its bytes are there.
  pub judged_payload_there : payload_end f len ≤ length s
  judged_payload_there = named.there

  pub judged_there : used ≤ length s
  judged_there = used_there f s (payload_at f s len) used found

  -- It is read, or its payload has no room in the buffer.
  module _ (buf : List ℕ) where
    pub reads_short : length buf < len → Reads f s buf (Err Buffer) buf
    reads_short h =
        let p : List ℕ = payload_at f s len in
        let short : leb (length p) (length buf) ≡ false = lt-leb (length p) (length buf) (omega (arith, named.long)) in
        reads_by f s buf (frame (used + behind_frame f s used) p) (Err Buffer) buf (read_judged f s used p found)
        (ap (λ (q : Bool). cond q (frame_reading (used + behind_frame f s used) (length p)) (no_reading 13)) (sym short))
        (ap (λ (q : Bool). cond q (in_front p buf) buf) (sym short))

    pub reads_frame : (more : ℕ) (after : List ℕ) → len ≤ length buf → more ≡ absorbed f (is_open f used s) (drop used s) →
        after ≡ in_front (bytes_at f s len) buf → Reads f s buf (Ok (record { used = used + more; len = len })) after
    reads_frame more after h k t =
        let p : List ℕ = payload_at f s len in
        let fits : leb (length p) (length buf) ≡ true = le-leb (length p) (length buf) (omega (arith, named.long)) in
        reads_by f s buf (frame (used + behind_frame f s used) p) (Ok (record { used = used + more; len = len })) after (read_judged f s used p found)
        (ap₂ frame_reading (ap (λ (n : ℕ). used + n) k) (sym named.long)
        ∙ ap (λ (q : Bool). cond q (frame_reading (used + behind_frame f s used) (length p)) (no_reading 13)) (sym fits))
        (t ∙ ap (λ (l : List ℕ). in_front l buf) named.taken ∙ ap (λ (q : Bool). cond q (in_front p buf) buf) (sym fits))

module _ (f : Framing) (p buf : List ℕ) where
  -- 14.
  pub writes_payload : (length p ≡ 0) ⊎ (256 < length p) → Writes f p buf (Err Payload) buf
  writes_payload h =
      let not : writable p ≡ false =
      and_fails (leb 1 (length p)) (leb (length p) 256)
      (⊎_elim (λ z. inl (lt-leb 1 (length p) (omega arith))) (λ m. inr (lt-leb (length p) 256 m)) h)
      in
      record {
        answers = ap (λ (q : Bool). cond q (cond (leb (length (layout f p)) (length buf)) (length_writing (length (layout f p))) (no_writing 13)) (no_writing 14))
            (sym not);
        leaves = ap (λ (q : Bool). cond (q && leb (length (layout f p)) (length buf)) (in_front (layout f p) buf) buf) (sym not);
      }

  pub writes_empty : length p ≡ 0 → Writes f p buf (Err Payload) buf
  writes_empty h = writes_payload (inl h)

  pub writes_long : 256 < length p → Writes f p buf (Err Payload) buf
  writes_long h = writes_payload (inr h)

  module _ (some : 1 ≤ length p) (most : length p ≤ 256) where
    may : writable p ≡ true
    may = and_true (leb 1 (length p)) (leb (length p) 256) (le-leb 1 (length p) some) (le-leb (length p) 256 most)

    -- 13.
    pub writes_short : length buf < frame_length f (length p) → Writes f p buf (Err Buffer) buf
    writes_short h =
        let short : leb (length (layout f p)) (length buf) ≡ false = lt-leb (length (layout f p)) (length buf) (omega (arith, length_layout f p)) in
        record {
          answers = simp (may, short);
          leaves = simp (may, short);
        }

    pub writes_frame : (n : ℕ) (after : List ℕ) → n ≡ frame_length f (length p) → n ≤ length buf → after ≡ in_front (layout f p) buf → Writes f p buf (Ok n) after
    writes_frame n after e h k =
        let size : length (layout f p) ≡ n = length_layout f p ∙ sym e in
        let fits : leb (length (layout f p)) (length buf) ≡ true = le-leb (length (layout f p)) (length buf) (omega arith) in
        let enough : leb n (length buf) ≡ true = le-leb n (length buf) h in
        record {
          answers = simp (may, size, enough);
          leaves = k ∙ simp (may, fits);
        }
