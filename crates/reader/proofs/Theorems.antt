-- The claims of specs/, each proved, those on calls and damage for every format.
-- Every export has its statement in specs/; a crate above this one names this module alone.
-- Assumes nothing.
use Rattle.reader.specs.Claims.{TakenIsNeeded, NeedsMoreIsTrue, HeldThenChunk, CallsFollowRule}
use Rattle.reader.specs.Recovery.{AsciiCallsRecover, BinaryCallsRecover, CleanCalls}
use Rattle.reader.specs.Draining.{LineDrains, NeedsMoreIsDrained, DrainFollowsRule, QuietFollowsRule, EmptyIsDrained, DrainCounts, DrainSums}
use Rattle.reader.specs.Draining.{FeedReports, QuietReports, ViewReports, DrainIsSized, RuleIsSized}
use Rattle.reader.specs.Driving.{CanDrive, DrivesAreShort, StateNeverRefused}
use Rattle.reader.specs.Counts.{CallsCount, CallsBound}
use Rattle.reader.specs.Positions.{QuietsAtEnd, CallsGivePositions, CallsGivePlaces}
use Rattle.reader.specs.MarkExamples.{NextCallTakesIt, OtherFormats, HeldBehindTheFrame, BeganEarlier, QuietEndsIt, AnyEnding}
use Rattle.reader.specs.RecoveryExamples.{LostAndBack, ProvisoNeeded, MixedFooters, FooterRequired, AsciiBack, MixedLines, StrictLines, LfJudges}
use Rattle.reader.specs.Further.{FeedsAgree, QuietsAgree, MarkMeansNothing, CleanLine, AsciiRecovers, BinaryRecovers, LateFramesComeBack, FeedStaysSound, QuietStaysSound, EndsFresh, CallsCountFrom, StateBound, LineCounts, QuietCounts, FrameCounts, AbsorbedNotJudged, CutsAgree, CallsGiveAfter, NoneIsZero, RuleBound, TakenIsInside}
use Rattle.reader.specs.Views.{ViewIsFeed, ViewStaysInside}
use Rattle.reader.specs.CountExamples.{ColonsCount, NestedStartsCount, Unfinished, OptionalNotJudged, HandMadeCounts}
use Rattle.reader.specs.PositionExamples.{PositionExamples, PositionsAfterExamples}
use Rattle.frame.specs.declared.framing.Footer.{Footer}
use Rattle.frame.specs.declared.framing.Ending.{Ending}
use Rattle.frame.specs.declared.framing.Format.{Format}
use Rattle.reader.proofs.Settling as settling
use Rattle.reader.proofs.Draining as draining
use Rattle.reader.proofs.Calling as calling
use Rattle.reader.proofs.Views as views
use Rattle.reader.proofs.Stretches as stretches
use Rattle.reader.proofs.AsciiRecovery as ascii-recovery
use Rattle.reader.proofs.BinaryRecovery as binary-recovery
use Rattle.reader.proofs.CallsRecovery as calls-recovery
use Rattle.reader.proofs.Driving as driving
use Rattle.reader.proofs.Refusals as refusals
use Rattle.reader.proofs.Agreeing as agreeing
use Rattle.reader.proofs.Taking as taking
use Rattle.reader.proofs.RecoveryExamples as recovery-examples
use Rattle.reader.proofs.MarkExamples as mark-examples
use Rattle.reader.proofs.RuleCounts as rule-counts
use Rattle.reader.proofs.CallCounts as call_counts
use Rattle.reader.proofs.Bounds as bounds
use Rattle.reader.proofs.CountExamples as count-examples
use Rattle.reader.proofs.CallPositions as call-positions

pub taken_is_inside : TakenIsInside
taken_is_inside = settling.line_taken

pub taken_is_needed : TakenIsNeeded
taken_is_needed = taking.taken_is_needed

pub needs_more_is_true : NeedsMoreIsTrue
needs_more_is_true = settling.needs_more_is_true

pub held_then_chunk : HeldThenChunk
held_then_chunk = taking.held_then_chunk

pub mark_means_nothing : (m : Format) → MarkMeansNothing m
mark_means_nothing = taking.mark_means_nothing

pub line_drains : LineDrains
line_drains = draining.line_drains

pub needs_more_is_drained : NeedsMoreIsDrained
needs_more_is_drained = draining.needs_more_is_drained

pub drain_follows_rule : DrainFollowsRule
drain_follows_rule = draining.drain_follows_rule

pub quiet_follows_rule : QuietFollowsRule
quiet_follows_rule = settling.quiet_rule

pub empty_is_drained : EmptyIsDrained
empty_is_drained = settling.quiet_left

pub feed_reports : FeedReports
feed_reports = calling.feed_reports

pub quiet_reports : QuietReports
quiet_reports = calling.quiet_reports

pub view_reports : ViewReports
view_reports = views.view_reports

pub view_is_feed : ViewIsFeed
view_is_feed = views.view_is_feed

pub view_stays_inside : ViewStaysInside
view_stays_inside = views.view_stays_inside

pub drain_is_sized : DrainIsSized
drain_is_sized = draining.drain_is_sized

pub rule_is_sized : (f : Format) → RuleIsSized f
rule_is_sized = draining.rule_is_sized

pub calls_follow_rule : (f : Format) → CallsFollowRule f
calls_follow_rule = calling.calls_follow_rule

pub clean_line : (f : Format) → CleanLine f
clean_line = stretches.clean_line

pub ascii_recovers : (ending : Ending) → AsciiRecovers ending
ascii_recovers = ascii-recovery.ascii_recovers

pub binary_recovers : (footer : Footer) → BinaryRecovers footer
binary_recovers = binary-recovery.binary_recovers

pub late_frames_come_back : (footer : Footer) → LateFramesComeBack footer
late_frames_come_back = binary-recovery.late_frames_come_back

pub ascii_calls_recover : (ending : Ending) → AsciiCallsRecover ending
ascii_calls_recover = calls-recovery.ascii_calls_recover

pub binary_calls_recover : (footer : Footer) → BinaryCallsRecover footer
binary_calls_recover = calls-recovery.binary_calls_recover

pub clean_calls : (f : Format) → CleanCalls f
clean_calls = calls-recovery.clean_calls

pub can_drive : (f : Format) → CanDrive f
can_drive = driving.can_drive

pub drives_are_short : (f : Format) → DrivesAreShort f
drives_are_short = driving.drives_are_short

pub state_never_refused : (f : Format) → StateNeverRefused f
state_never_refused = refusals.state_never_refused

-- The promises leave no answer open.
pub feeds_agree : FeedsAgree
feeds_agree = agreeing.feeds_agree

pub quiets_agree : QuietsAgree
quiets_agree = agreeing.quiets_agree

pub feed_stays_sound : FeedStaysSound
feed_stays_sound = refusals.feed_stays_sound

pub quiet_stays_sound : QuietStaysSound
quiet_stays_sound = refusals.quiet_stays_sound

pub ends_fresh : (f : Format) → EndsFresh f
ends_fresh = calling.ends_fresh

pub lost_and_back : (footer : Footer) → LostAndBack footer
lost_and_back = recovery-examples.lost_and_back

pub proviso_needed : (footer : Footer) → ProvisoNeeded footer
proviso_needed = recovery-examples.proviso_needed

pub mixed_footers : MixedFooters
mixed_footers = recovery-examples.mixed_footers

pub footer_required : FooterRequired
footer_required = recovery-examples.footer_required

pub next_call_takes_it : NextCallTakesIt
next_call_takes_it = mark-examples.next_call_takes_it

pub other_formats : OtherFormats
other_formats = mark-examples.other_formats

pub held_behind_the_frame : HeldBehindTheFrame
held_behind_the_frame = mark-examples.held_behind_the_frame

pub began_earlier : BeganEarlier
began_earlier = mark-examples.began_earlier

pub quiet_ends_it : QuietEndsIt
quiet_ends_it = mark-examples.quiet_ends_it

pub ascii_back : (ending : Ending) → AsciiBack ending
ascii_back = recovery-examples.ascii_back

pub mixed_lines_lem : MixedLines
mixed_lines_lem = recovery-examples.mixed_lines_back

pub strict_lines : StrictLines
strict_lines = recovery-examples.strict_lines

pub lf_judges : LfJudges
lf_judges = recovery-examples.lf_judges

pub any_ending_lem : AnyEnding
any_ending_lem = mark-examples.any_ending_lem

pub calls_count : (f : Format) → CallsCount f
calls_count = call_counts.calls_count

pub calls_count_from : CallsCountFrom
calls_count_from = call_counts.calls_count_from

pub rule_bound : (f : Format) → RuleBound f
rule_bound = bounds.rule_bound

pub calls_bound : (f : Format) → CallsBound f
calls_bound = bounds.calls_bound

pub state_bound : StateBound
state_bound = bounds.state_bound

pub colons_count : (ending : Ending) → ColonsCount ending
colons_count = bounds.colons_count

pub nested_starts_count : (footer : Footer) → NestedStartsCount footer
nested_starts_count = bounds.nested_starts_count

pub line_counts_lem : LineCounts
line_counts_lem = call_counts.line_counts_lem

pub quiet_counts_lem : QuietCounts
quiet_counts_lem = call_counts.quiet_counts_lem

pub drain_counts : DrainCounts
drain_counts = call_counts.drain_counts

pub drain_sums : DrainSums
drain_sums = call_counts.drain_sums

pub frame_counts : (m : Format) → FrameCounts m
frame_counts m s p used e = rule-counts.counted_frame m used p s e

pub absorbed_not_judged : (m : Format) → AbsorbedNotJudged m
absorbed_not_judged = call_counts.absorbed_not_judged

pub unfinished : Unfinished
unfinished = count-examples.unfinished

pub optional_not_judged : OptionalNotJudged
optional_not_judged = count-examples.optional_not_judged

pub hand_made_counts : HandMadeCounts
hand_made_counts = count-examples.hand_made_counts

pub quiets_at_end : QuietsAtEnd
quiets_at_end = call-positions.quiets_at_end

pub calls_give_positions : (f : Format) → CallsGivePositions f
calls_give_positions = call-positions.calls_give_positions

pub cuts_agree : (f : Format) → CutsAgree f
cuts_agree = call-positions.cuts_agree

pub calls_give_places : (f : Format) → CallsGivePlaces f
calls_give_places = call-positions.calls_give_places

pub calls_give_after : CallsGiveAfter
calls_give_after = call-positions.calls_give_after

pub none_is_zero : NoneIsZero
none_is_zero = call-positions.none_is_zero

pub position_examples : PositionExamples
position_examples = call-positions.position_examples

pub positions_after_examples : PositionsAfterExamples
positions_after_examples = call-positions.positions_after_examples
