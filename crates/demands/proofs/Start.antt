-- THE LIBRARY'S START: when it answers Ready, and what it leaves where it does not. A reader reads all of this file, after Calls.
use Rattle.std.specs.Prelude.{ℕ, ◌≤◌, refl, List, length, Some, None}
use Rattle.std.proofs.Math.Path.{◌≡◌}
use Rattle.std.proofs.Common.{arith}
use borrow.Author.Tests.{le-ltb}
use Rattle.rules.proofs.Laws.Line.{both}
use Rattle.thread.specs.declared.Thread.{Thread}
use Rattle.command_laws.specs.Law.{lent}
use Rattle.stream.specs.Start.{no_room_def, initial, start_def}
use Rattle.demands.specs.Calls.{Typed, Ready}

-- what is lent, whatever it holds
module _ (threads : List Thread) (cpus nodes : List (List ℕ)) where
  -- Enough rows in each slice: the answer is Ready, with the state of the base's limits.
  pub start_ready : 1024 ≤ length threads → 64 ≤ length cpus → 128 ≤ length nodes → (start_def (lent threads cpus nodes)).answer ≡ Some initial
  unfolding start_def no_room_def
  start_ready t c n = rw (le-ltb (length threads) 1024 t, le-ltb (length cpus) 64 c, le-ltb (length nodes) 128 n)

  -- So on slices that are typed and long enough the theorems of this crate speak of what `start` leaves.
  pub start_begins : Typed threads cpus nodes → 1024 ≤ length threads → 64 ≤ length cpus → 128 ≤ length nodes
      → Ready (record {
        threads = (start_def (lent threads cpus nodes)).memory.threads;
        cpus = (start_def (lent threads cpus nodes)).memory.cpus;
        nodes = (start_def (lent threads cpus nodes)).memory.nodes;
        state = initial;
      })
  start_begins typed t c n = record {
    threads = threads;
    cpus = cpus;
    nodes = nodes;
    typed = typed;
    answered = unfold start_def no_room_def in rw (le-ltb (length threads) 1024 t, le-ltb (length cpus) 64 c, le-ltb (length nodes) 128 n);
    left_threads = refl;
    left_cpus = refl;
    left_nodes = refl;
  }

  -- Where it answers NoRoom, everything is as found.
  pub start_as_found : (start_def (lent threads cpus nodes)).answer ≡ None → (start_def (lent threads cpus nodes)).memory ≡ lent threads cpus nodes
  unfolding start_def
  start_as_found e =
      both (no_room_def (length threads) (length cpus) (length nodes)) (λ t. rw t)
      (λ t. let z : Some initial ≡ None = rw t at e in let y : ◌≡◌ {A = ℕ} 0 1 = cc in absurd (omega arith))
