-- Memory ran out before the task of the words was known: whatever it is, nothing was done of it.
use Rattle.std.proofs.Common.{ℕ, List, [], Option, None, Some, inl, inr, refl, arith}
use Rattle.std.proofs.KnownBytes.{Appends-nil, Consumes-nil, Keeps-refl}
use Rattle.network_replay.specs.Following.{Seen}
use Rattle.script_grammar.specs.Draft.{Draft}
use Rattle.script_run.specs.declared.ending.Ending.TheVariants as ends
use Rattle.script_run.proofs.Ended.{ended_at_once}
use Rattle.script_run.specs.Standing.{IsNetworkOf}
use Rattle.grown_player.proofs.Ended.{out_of_memory}
use Rattle.node_stream.specs.declared.ending.Ending.TheVariants as served
use Rattle.load_policer.specs.declared.ending.Ending.TheVariants as police
use Rattle.load_policer.proofs.Ended.{ended_at_once as policed_at_once}
use Rattle.command_run.specs.Commands.{Does, Stands}
use Rattle.command_run.specs.Ran.{Device, ran}
use Rattle.command_run.specs.declared.status.Status.TheVariants.{NoMemory}
use Rattle.command_run.specs.declared.task.Task.{Task}
use Rattle.command_run.specs.declared.task.Task.TheVariants.{Replay, Demand, Show, Grow, Node, Police}
use Rattle.command_run.proofs.Answering.{demanded_so}
use Rattle.command_run.proofs.Grown.{grown_so}
use Rattle.command_run.proofs.Replays.{replayed_so}

-- a source or a sink of which nothing was taken, or to which nothing was written
abbrev still : Option (List ℕ) → ℕ → Device
still bytes faults = record { old = bytes; new = bytes; faults = faults; later_faults = faults }

module _ {R : Type 0} (see : Seen R) where
  pub did_nothing : (t : Option Task) (left holds : Option (List ℕ)) (n m : ℕ) → Does see t (ran NoMemory (still left n) (still holds m) []) None
  did_nothing None left holds n m = record { usage = inr refl; unread = record { source = Keeps-refl left; advice = refl }; unwritten = Keeps-refl holds }
  did_nothing (Some Replay) left holds n m =
      replayed_so see None ends.NoMemory (still left n) (still holds m) []
      (ended_at_once (λ (p : Unit {0}) (d : Draft). Unit {0}) (Stands see None) left holds) (λ other. refl) (λ bytes known. refl)
      (λ bytes text wanted known short comes calm quiet. inr refl)
  did_nothing (Some Demand) left holds n m = (
    demanded_so ends.NoMemory (still left n) (still holds m) []
        (record { taken = []; took = Consumes-nil left; counted = omega arith; wrote = record { text = []; wrote = Appends-nil holds; ended = refl } })
        (λ bytes known. refl) (λ bytes wanted known demands calm quiet. inr refl),
    refl,
  )
  did_nothing (Some Show) left holds n m = (
    record {
      ending = (ends.NoMemory, refl, record { taken = []; took = Consumes-nil left; counted = omega arith; wrote = record { text = []; wrote = Appends-nil holds; ended = refl } });
      advised = λ bytes known. refl;
      complete = λ bytes wanted known shows calm quiet. inr refl;
    },
    refl,
  )
  did_nothing (Some (Grow seed)) left holds n m = (
    grown_so see None ends.NoMemory seed (still holds m) (out_of_memory (IsNetworkOf see None) seed holds) (λ other. refl) (λ wanted grows quiet. inr refl),
    record { source = Keeps-refl left; advice = refl },
  )
  did_nothing (Some Node) left holds n m = (
    record {
      how = served.NoMemory;
      status = refl;
      ending = record { taken = []; took = Consumes-nil left; text = []; wrote = Appends-nil holds; counted = omega arith; ended = (inl refl, refl) };
      advised = λ bytes known. refl;
      complete = λ bytes text wanted known few comes calm quiet. inr refl;
    },
    refl,
  )
  did_nothing (Some Police) left holds n m = (
    record {
      how = police.NoMemory;
      status = refl;
      ending = policed_at_once left holds;
      advised = λ bytes known. refl;
      complete = λ bytes text wanted known few comes calm quiet. inr refl;
    },
    refl,
  )
