-- The claims of specs/, each proved for every format.
-- Assumes nothing.
use Rattle.std.proofs.Common.{◌≡◌, ℕ, List, length, sym, ap, ◌∙◌}
use Rattle.frame.specs.Checks.{payload_in}
use Rattle.frame.specs.Framing.{checks, judge, in_front}
use Rattle.frame.specs.Judged.{payload_at}
use Rattle.frame.specs.Claims.{EndingsRead, NeverFive, FrameIsFrontAndEnding, BytesAddUp}
use Rattle.frame.specs.Further.{DecisionStands, UndecidedIsShort, FrameIsSized, ReadIsSized, LayoutReads, UnpackGivesPayload}
use Rattle.frame.specs.declared.framing.Format.{Format}
use Rattle.frame.proofs.Trees.{stands}
use Rattle.frame.proofs.Optional as optional
use Rattle.frame.proofs.Rules as rules
use Rattle.frame.proofs.Framings.{undecided_short, frame_sized, payload_there, unpacks_frame, unpacked_frame}

pub layout_reads : (m : Format) → LayoutReads m
layout_reads = optional.layout_reads

pub endings_read : (m : Format) → EndingsRead m
endings_read = optional.endings_read

pub never_five : (m : Format) → NeverFive m
never_five = optional.five_never

pub frame_is_front_and_ending : (m : Format) → FrameIsFrontAndEnding m
frame_is_front_and_ending = optional.frame_is_front_and_ending

pub decision_stands : (f : Format) → DecisionStands f
decision_stands f = stands (checks f)

pub undecided_is_short : (f : Format) → UndecidedIsShort f
undecided_is_short = undecided_short

pub frame_is_sized : (f : Format) → FrameIsSized f
frame_is_sized = frame_sized

pub read_is_sized : (m : Format) → ReadIsSized m
read_is_sized = optional.read_sized

pub unpack_gives_payload : (f : Format) → UnpackGivesPayload f
unpack_gives_payload f s buf used len e room =
    let same : payload_in (judge f s) ≡ payload_at f s len = ap payload_in e in (
      ap length same ∙ (payload_there f s used len e).1,
      unpacks_frame f s used len buf e room,
      unpacked_frame f s used len buf e room ∙ ap (λ (p : List ℕ). in_front p buf) (sym same),
    )

pub bytes_add_up : (f : Format) → BytesAddUp f
bytes_add_up = rules.bytes_add_up
