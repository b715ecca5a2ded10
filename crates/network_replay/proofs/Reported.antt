-- A report is its step.
use Rattle.std.proofs.Common.{◌≡◌, ℕ, List, [], ◌∷◌, ◌++◌, true, false, Option, None, Some, refl, sym, ap, ◌∙◌, append-nil}
use Rattle.std.specs.Prelude.{Err}
use Rattle.rsvp_base.specs.declared.room.NoMemory.{NoMemory as NoRoom}
use Rattle.network_flight.specs.Runs.{adverts_report, crowds, whole_report, written}
use Rattle.network_flight.specs.Steps.{Step, Report, Flags, Adverts, step}
use Rattle.network_flight.specs.Worlds.{World}
use Rattle.network_replay.specs.Agreeing.{NetworkState, Agrees}
use Rattle.network_replay.specs.Following.{Seen}
use Rattle.network_replay.specs.Reporting.{Says, report_said}
use Rattle.network_replay.specs.Running.{Ran}
use Rattle.network_replay.specs.declared.world_err.WorldErr.TheVariants.{NoMemory}
use Rattle.network_replay.proofs.Runnings.{well, ran_one}
use Rattle.network_replay.proofs.Stepped.{still_made, counted_none}

pub report_is : (q : ℕ) (names : List (List ℕ)) (end : Option ℕ) (w : World) → report_said q names false end w ≡ written q names (Report end) w
report_is q names None w = refl
report_is q names (Some e) w = refl

pub flags_are : (q : ℕ) (names : List (List ℕ)) (w : World) → report_said q names true None w ≡ written q names Flags w
flags_are q names w = refl

pub adverts_are : (q : ℕ) (names : List (List ℕ)) (w : World) → whole_report q names adverts_report w ≡ written q names Adverts w
adverts_are q names w = refl

module _ {R : Type 0} (see : Seen R) (q : ℕ) (v : NetworkState R) (w : World) (agrees : Agrees see q v w) (o after : List ℕ) where
  report_still : (end : Option ℕ) → (crowds q (Report end ∷ []) w ≡ false) × Agrees see q v (step q (Report end) w)
  report_still end = still_made q (Report end) w see v v agrees refl refl (λ n. refl) agrees.roomy refl agrees.flight agrees.room agrees.going refl refl agrees.words
      (counted_none see q v w agrees) agrees.trace

  flags_still : (crowds q (Flags ∷ []) w ≡ false) × Agrees see q v (step q Flags w)
  flags_still = still_made q Flags w see v v agrees refl refl (λ n. refl) agrees.roomy refl agrees.flight agrees.room agrees.going refl refl agrees.words (counted_none see q v w agrees) agrees.trace

  adverts_still : (crowds q (Adverts ∷ []) w ≡ false) × Agrees see q v (step q Adverts w)
  adverts_still = still_made q Adverts w see v v agrees refl refl (λ n. refl) agrees.roomy refl agrees.flight agrees.room agrees.going refl refl agrees.words
      (counted_none see q v w agrees) agrees.trace

  pub report_ran : (end : Option ℕ) → after ≡ o ++ report_said q v.names false end w → Ran see q v.names well o after v (Report end ∷ []) w
  report_ran end said = ran_one q v.names see o after (report_said q v.names false end w) v (Report end) w (report_still end) (report_is q v.names end w) said

  pub flags_ran : after ≡ o ++ report_said q v.names true None w → Ran see q v.names well o after v (Flags ∷ []) w
  flags_ran said = ran_one q v.names see o after (report_said q v.names true None w) v Flags w flags_still (flags_are q v.names w) said

  pub adverts_ran : after ≡ o ++ whole_report q v.names adverts_report w → Ran see q v.names well o after v (Adverts ∷ []) w
  adverts_ran said = ran_one q v.names see o after (whole_report q v.names adverts_report w) v Adverts w adverts_still (adverts_are q v.names w) said

pub unsaid : {R : Type 0} (see : Seen R) (q : ℕ) (names : List (List ℕ)) (n : NoRoom) (o after t : List ℕ) (v : NetworkState R) (s : Step) (w : World) → t ≡ written q names s w
    → Says (Err n) o after t → Ran see q names (Err NoMemory) o after v (s ∷ []) w
unsaid see q names n o after t v s w e said = (said.0, ap (λ (x : List ℕ). o ++ x) (append-nil (written q names s w) ∙ sym e) ∙ said.1)
