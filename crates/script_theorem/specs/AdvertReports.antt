-- What an `adverts` line writes once advertisements have settled, whatever is demanded: by end, session and sender the advertisement of
-- each advertised live sender whose tree comes there, a function of the network and of who is advertised.
use Rattle.std.specs.Prelude.{◌≡◌, ℕ, ◌+◌, ◌*◌, ◌++◌, false, List, ◌∷◌}
use Rattle.network_model.specs.Bounds.{EndsInCalm}
use Rattle.network_model.specs.Runs.{Plan, first_world, is_crowded_run, run_text, steps_of_run, text_of}
use Rattle.network_model.specs.Steps.{Adverts, Step, step}
use Rattle.network_model.specs.Worlds.{World}
use Rattle.laws_network.specs.Runs.{AreFitSenders, IsFitRun}
use Rattle.settle_adverts.specs.Demanded.{advertised_senders, demanded_adverts}
use Rattle.script_theorem.specs.Demands.{moment}
use Rattle.script_theorem.specs.Writing.{OnlyWrite}

-- 7 H + 4 rounds, H the length of the longest chain of hops: advertisements have settled. A purged moment is one, and so is a settled one
abbrev pub to_advertise : ℕ → ℕ
to_advertise long = 4 + 7 * long

abbrev pub AreAdvertsSettled : ℕ → World → List Step → Type 0
AreAdvertsSettled = EndsInCalm to_advertise

-- the text of the run: that of the steps before the `adverts` line, the advertisements that are demanded, and that of the steps behind it
abbrev pub AppendsTheAdverts : Plan → List Step → List Step → Type 0
AppendsTheAdverts p ss ts =
    run_text p ≡ text_of p.quarter p.names ss (first_world p)
    ++ (demanded_adverts p.names (moment p ss).net (advertised_senders (moment p ss))
    ++ text_of p.quarter p.names ts (step p.quarter Adverts (moment p ss)))

-- an `adverts` line at such a moment, or behind steps that only write after one, whether or not the demands fit
abbrev pub SettlesToTheAdverts : Plan → Type 0
SettlesToTheAdverts p =
    (ss still ts : List Step) → steps_of_run p ≡ (ss ++ still) ++ Adverts ∷ ts → AreAdvertsSettled p.quarter (first_world p) ss → OnlyWrite still → AppendsTheAdverts p (ss ++ still) ts

-- in a run that is not crowded
abbrev pub ASettledAdvertsLineIsDemanded : Type 0
ASettledAdvertsLineIsDemanded = (p : Plan) → IsFitRun p → AreFitSenders p → is_crowded_run p ≡ false → SettlesToTheAdverts p
