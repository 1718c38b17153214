-- A STREAM'S OUTPUT. "The program takes every byte stream to an end line": `feed` over any cutting of a stream into blocks gives the rules' output of
-- the stream. And what it leaves in memory is the rules' state after the commands whose lines it wrote. A reader reads all of this file, after Calls and Taken.
use Rattle.std.specs.Prelude.{ℕ, ◌<◌, ◌≡◌, true, List, [], ◌++◌}
use Rattle.std.proofs.Common.{sym, subst, ◌∙◌}
use Rattle.rules.specs.State.{base_limits}
use Rattle.rules.specs.Lines.{output}
use Rattle.stream.specs.Progress.{END, ENDED}
use Rattle.represents.specs.State.{StateRep}
use Rattle.demands.specs.Calls.{LentState, Ready}
use Rattle.stream_laws.specs.Taken.{after_commands, so_far, EndedWithin}
use Rattle.stream_laws.proofs.Laws.Along.{ended_whatever}
use Rattle.stream_laws.specs.Calls.{Call, Run, after_all, outputs, stream, Proper, Roomy, says_last, Settled, begun}
use Rattle.stream_laws.proofs.Laws.Fold.{from_start, from_start_along, from_start_so_far, from_start_ended, from_start_whole, from_start_settled, from_start_by_command}
use Rattle.stream_laws.specs.EndLine.{EndsWithEndLine}
use Rattle.stream_laws.proofs.EndLine.{output_ends}

-- h is what `start` left when it answered Ready; the calls are any list.
module _ (h : LentState) (ready : Ready h) (calls : List Call) where
  -- ANY BUFFERS, also such as no line fits: what was written is the beginning of the rules' output, whatever is to come,
  pub feed_front : (to_come : List ℕ) → Proper calls to_come → (rest : List ℕ) × (outputs (begun h) calls ++ rest ≡ output base_limits (stream calls ++ to_come))
  feed_front to_come p = (_, (from_start h ready calls to_come p).same)

  -- and all of it once the end line is written, whether the stream is at its end or a command ended the run.
  pub feed_ended : (to_come : List ℕ) → Proper calls to_come → (after_all (begun h) calls).fed.phase ≡ ENDED
      → outputs (begun h) calls ≡ output base_limits (stream calls ++ to_come)
  feed_ended to_come p e = from_start_ended h ready calls to_come p e

  -- LARGE BUFFERS: where the last call says that no byte is to come, the outputs are exactly the rules' output of the stream,
  pub feed_output : Proper calls [] → Roomy calls → says_last calls ≡ true → outputs (begun h) calls ≡ output base_limits (stream calls)
  feed_output p m e = from_start_whole h ready calls p m e

  -- and so end with an end line.
  pub feed_ends : Proper calls [] → Roomy calls → says_last calls ≡ true → EndsWithEndLine (outputs (begun h) calls)
  feed_ends p m e = subst EndsWithEndLine (sym (from_start_whole h ready calls p m e)) (output_ends base_limits (stream calls))

  -- After such calls at most eight bytes are left over, for which the next block's buffer has room.
  pub feed_left_over : (to_come : List ℕ) → Proper calls to_come → Roomy calls → Settled (after_all (begun h) calls)
  feed_left_over to_come p m = from_start_settled h ready calls to_come p m

  -- STREAMS WITHOUT AN END, with large buffers too: once the blocks given hold a command that ends the run (refusal 1, or number 4,294,967,294), the end line
  -- is written, though no call says `last`, whatever is to come. Refusal 2, of a command cut short, ends a run only where a call says `last`, and of that
  -- feed_output speaks.
  pub feed_ended_by_command : (to_come : List ℕ) → Proper calls to_come → Roomy calls → EndedWithin (stream calls) → (after_all (begun h) calls).fed.phase ≡ ENDED
  feed_ended_by_command to_come p m e = from_start_by_command h ready calls to_come p m e

  -- The outputs are then exactly the rules' output of the blocks given, which is that of the stream with all that is to come,
  pub feed_output_by_command : (to_come : List ℕ) → Proper calls to_come → Roomy calls → EndedWithin (stream calls)
      → (outputs (begun h) calls ≡ output base_limits (stream calls)) × (output base_limits (stream calls ++ to_come) ≡ output base_limits (stream calls))
  feed_output_by_command to_come p m e =
      let whatever : output base_limits (stream calls ++ to_come) ≡ output base_limits (stream calls) = ended_whatever (stream calls) to_come e in
      (from_start_ended h ready calls to_come p (from_start_by_command h ready calls to_come p m e) ∙ whatever, whatever)

  -- and so end with an end line.
  pub feed_ends_by_command : (to_come : List ℕ) → Proper calls to_come → Roomy calls → EndedWithin (stream calls) → EndsWithEndLine (outputs (begun h) calls)
  feed_ends_by_command to_come p m e =
      subst EndsWithEndLine (sym (from_start_ended h ready calls to_come p (from_start_by_command h ready calls to_come p m e) ∙ ended_whatever (stream calls) to_come e))
      (output_ends base_limits (stream calls))

  -- THE MEMORY, with any buffers and whatever is to come, stands for the rules' state after the first commands of the stream, as many as the run counts;
  pub feed_stands : (to_come : List ℕ) → Proper calls to_come
      → let r : Run = after_all (begun h) calls in
      StateRep r.threads r.cpus r.nodes r.fed.state (after_commands r.fed.number (stream calls ++ to_come)).state
  feed_stands to_come p =
      let r : Run = after_all (begun h) calls in
      subst (StateRep r.threads r.cpus r.nodes r.fed.state) (from_start_along h ready calls to_come p).state_is (from_start h ready calls to_come p).going.stands

  -- these are the commands whose lines are written,
  pub feed_so_far : (to_come : List ℕ) → Proper calls to_come
      → let r : Run = after_all (begun h) calls in
      outputs (begun h) calls ≡ so_far r.fed.phase r.fed.number r.fed.refused (stream calls ++ to_come)
  feed_so_far to_come p = from_start_so_far h ready calls to_come p

  -- and, while the run goes on, they took all bytes but those left over.
  pub feed_taken : (to_come : List ℕ) → Proper calls to_come
      → let r : Run = after_all (begun h) calls in
      r.fed.phase < END → r.left_over ++ to_come ≡ (after_commands r.fed.number (stream calls ++ to_come)).bytes
  feed_taken to_come p q = (from_start_along h ready calls to_come p).rest_is q
