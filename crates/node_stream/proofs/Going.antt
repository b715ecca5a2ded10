-- A stream on its way: the router stands where the frames before say, and within bounds.
use Rattle.std.proofs.Common.{◌≡◌, ℕ, ◌+◌, ◌<◌, ◌≤◌, List, [], ◌∷◌, Bool, true, false, Option, None, Some, length, refl, sym, ap, subst, ◌∙◌, arith, inl, inr}
use Rattle.std.specs.Prelude.{nat_eq}
use Rattle.std.proofs.lemmas.Bool.{eqb-true}
use Rattle.std.specs.Io.KnownBytes.{Consumes}
use Rattle.node_stream.proofs.Faults.{blame_is_fault}
use Rattle.network_replay.specs.Following.{Seen}
use Rattle.node_stream.specs.Endings.{IsAdvised, IsServed, most_bytes}
use Rattle.node_stream.specs.Frames.{IsFrame, contents_in, kind_in}
use Rattle.node_stream.specs.Serving.{Standing, place_if}
use Rattle.node_stream.specs.Stops.{IsAdvisedAt, IsStopped, ending_at}
use Rattle.node_stream.specs.declared.ending.Ending.{Ending}
use Rattle.node_stream.specs.declared.state.Stop.{Stop}
use Rattle.node_stream.specs.declared.state.Stop.TheVariants.{Bad, NoMemory}
use Rattle.node_stream.specs.States.{IsMeasured, IsSound, stand}
use Rattle.node_stream.specs.declared.state.Limits.{Limits}
use Rattle.node_stream.proofs.Served.{Progress, advised_faulty, at_start, ended_closed, ended_faulty}

pub record Going {R : Type 0} (see : Seen R) (old left first holds : Option (List ℕ)) (router : Option R) (limits : Limits) (taken number : ℕ) : Type 0 where
  pub clock : ℕ
  pub on : Progress old left first holds (stand see router clock) taken number
  pub sound : IsSound (stand see router clock) limits

pub going_at_start : {R : Type 0} (see : Seen R) (a f : Option (List ℕ)) (limits : Limits) → Going see a a f f None limits 0 1
going_at_start see a f limits = record { clock = 0; on = at_start a f; sound = tt }

pub measured : {R : Type 0} (see : Seen R) (router : Option R) (limits : Limits) (c : ℕ) → IsSound (stand see router c) limits → IsMeasured (stand see router 0) limits
measured see None limits c sound = tt
measured see (Some r) limits c sound = sound.0

-- ---- a frame that was not served
module _ {R : Type 0} (see : Seen R) (old left first holds : Option (List ℕ)) (router : Option R) (limits : Limits) (taken number : ℕ) (go : Going see old left first holds router limits taken number)
    (new : Option (List ℕ)) (frame : List ℕ) (got : Consumes left new frame) (now : ℕ) (long : now ≡ taken + length frame) (few : now ≤ most_bytes) (whole : IsFrame frame) (e : Ending) where
  abbrev st : Option Standing
  st = stand see router go.clock

  pub stopped_served : (stop : Stop) → IsStopped st (kind_in frame) (contents_in frame) stop → e ≡ ending_at number stop → IsServed e old new first holds
  stopped_served (Bad b) s is = ended_faulty old left first holds st taken number go.on new frame got now long few e number b is refl whole (blame_is_fault (place_if st) (kind_in frame) (contents_in frame) b s)
  stopped_served NoMemory s is = subst (λ (x : Ending). IsServed x old new first holds) (sym is) (ended_closed old left first holds st taken number go.on new frame got now long few s.0 whole s.1 s.2)

  pub stopped_advised : (stop : Stop) → IsStopped st (kind_in frame) (contents_in frame) stop → e ≡ ending_at number stop → (before advice : List ℕ) → before ≡ [] → IsAdvisedAt stop before advice
      → (bytes : List ℕ) → old ≡ Some bytes → IsAdvised e bytes advice
  stopped_advised (Bad b) s is before advice none a bytes known =
      advised_faulty old left first holds st taken number go.on new frame got now long few e number b is refl whole (blame_is_fault (place_if st) (kind_in frame) (contents_in frame) b s) advice (inr s) a bytes known
  stopped_advised NoMemory s is before advice none a bytes known = subst (λ (x : Ending). IsAdvised x bytes advice) (sym is) (a ∙ none)

-- nothing came, or something
pub is_nothing : (frame : List ℕ) (n : ℕ) (b : Bool) → n ≡ length frame → b ≡ nat_eq n 0 → b ≡ true → frame ≡ []
is_nothing [] n b same e t = refl
is_nothing (x ∷ xs) n b same e t = let none = eqb-true n 0 (sym e ∙ t) in absurd (omega (arith, none, same))

pub is_something : (frame : List ℕ) (n : ℕ) (b : Bool) → n ≡ length frame → b ≡ nat_eq n 0 → b ≡ false → 0 < length frame
is_something [] n b same e t = let z : false ≡ true = sym t ∙ e ∙ ap (λ (k : ℕ). nat_eq k 0) same in absurd (cc)
is_something (x ∷ xs) n b same e t = omega arith
