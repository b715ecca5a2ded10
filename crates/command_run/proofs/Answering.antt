-- The advice on a bad line, and what a run comes to, by its status; so what is promised of a demand.
use Rattle.std.proofs.Common.{◌≡◌, List, ℕ, Some, inl, inr, refl, ap}
use Rattle.script_run.specs.Advised.{IsAdvised as IsEndAdvised}
use Rattle.script_run.specs.Endings.{IsOrNoMemory as EndsOrNoMemory}
use Rattle.script_run.specs.declared.ending.Ending.{Ending}
use Rattle.script_run.specs.declared.ending.Ending.TheVariants.{Done, BadLine, ReadFault, WriteFault, NoMemory, Crowded, TooLong}
use Rattle.script_demand.specs.Demanding.{DemandsTo, IsDemanding}
use Rattle.command_run.specs.Advised.{IsAdvised}
use Rattle.command_run.specs.Commands.{Demanded}
use Rattle.command_run.specs.Ran.{Device, HasFailed, ran}
use Rattle.command_run.specs.Statuses.{IsOrNoMemory, status_of}

pub advised_so : (e : Ending) (bytes advice : List ℕ) → IsEndAdvised e bytes advice → IsAdvised (status_of e) bytes advice
advised_so Done bytes advice advised = advised
advised_so (BadLine number why) bytes advice advised = advised
advised_so ReadFault bytes advice advised = advised
advised_so WriteFault bytes advice advised = advised
advised_so NoMemory bytes advice advised = advised
advised_so Crowded bytes advice advised = advised
advised_so TooLong bytes advice advised = advised

pub or_no_memory : (wanted got : Ending) → EndsOrNoMemory wanted got → IsOrNoMemory (status_of wanted) (status_of got)
or_no_memory wanted got (inl is) = inl (ap status_of is)
or_no_memory wanted got (inr none) = inr (ap status_of none)

pub demanded_so : (e : Ending) (source sink : Device) (advice : List ℕ) → IsDemanding e source.old source.new sink.old sink.new
    → ((bytes : List ℕ) → source.old ≡ Some bytes → IsEndAdvised e bytes advice)
    → ((bytes : List ℕ) (wanted : Ending) → source.old ≡ Some bytes → DemandsTo wanted bytes → (HasFailed source → ⊥) → (wanted ≡ Done → HasFailed sink → ⊥) → EndsOrNoMemory wanted e)
    → Demanded (ran (status_of e) source sink advice)
demanded_so e source sink advice run advised complete = record {
  ending = (e, refl, run);
  advised = λ bytes known. advised_so e bytes advice (advised bytes known);
  complete = λ bytes wanted known demands calm quiet. or_no_memory wanted e (complete bytes wanted known demands calm quiet);
}
