-- The line that tells a delivery is the one of the model.
use Rattle.std.proofs.Common.{◌≡◌, ℕ, List, [], Bool, true, false, Option, None, Some, refl, sym, ap, ◌∙◌}
use Rattle.std.specs.Prelude.{slice_get, cond, Result, Ok, Err}
use Rattle.message_codec.specs.Spells.{Spells, IsFirstFault}
use Rattle.rsvp_messages.specs.declared.fault.MsgErr.{MsgErr}
use Rattle.rsvp_messages.specs.declared.message.Kind.{Kind}
use Rattle.rsvp_messages.specs.declared.message.Message.{Message}
use Rattle.rsvp_messages.specs.Kinds.{kind_of}
use Rattle.network_replay.specs.Following.{IsArrival}
use Rattle.router_rules.specs.Facts.{Facts}
use Rattle.router_rules.specs.Inputs.{Arrival, Spelt, Unspelt}
use Rattle.router_rules.specs.declared.answers.Heard.{Heard}
use Rattle.tree_model.specs.declared.hops.End.{End}
use Rattle.network_flight.specs.Runs.{with_parts, node_facts, delivery_text, heard_line, written}
use Rattle.network_flight.specs.Steps.{Deliver, outcome}
use Rattle.network_flight.specs.Worlds.{Item, World}
use Rattle.network_replay.specs.Due.{told, heard_at, heard_of}
use Rattle.network_replay.specs.Telling.{arrival_kind, told_line}

pub told_is : (name : List ℕ) (a : Arrival) (h : Heard) → told_line name (arrival_kind a) h ≡ told (Some name) a (Some h)
told_is name (Spelt m) h = refl
told_is name (Unspelt e) h = refl

pub told_none : (name : Option (List ℕ)) (a : Arrival) → told name a None ≡ []
told_none None a = refl
told_none (Some name) a = refl

pub told_at : (trace : Bool) (n : Option (List ℕ)) (a : Arrival) (o : Option Heard) (name : List ℕ) (h : Heard) → trace ≡ true → n ≡ Some name → o ≡ Some h
    → told_line name (arrival_kind a) h ≡ cond trace (told n a o) []
told_at trace n a o name h on named heard =
    told_is name a h ∙ ap (λ (x : Option (List ℕ)). told x a (Some h)) (sym named) ∙ ap (λ (x : Option Heard). told n a x) (sym heard) ∙ ap (λ (b : Bool). cond b (told n a o) []) (sym on)

module _ (q : ℕ) (names : List (List ℕ)) (w : World) (k : ℕ) where
  parts_are : (x : Item) (name : Option (List ℕ)) (e : Option End) (f : Option Facts)
      → with_parts (λ n e f. delivery_text n x.arrival (outcome q (Deliver k) w e.node f).heard) name e f ≡ told name x.arrival (heard_at q w k x e f)
  parts_are x None None f = refl
  parts_are x None (Some e) None = refl
  parts_are x None (Some e) (Some f) = refl
  parts_are x (Some name) None f = refl
  parts_are x (Some name) (Some e) None = refl
  parts_are x (Some name) (Some e) (Some f) = refl

  pub written_there : (x : Item) → slice_get w.flight k ≡ Some x → written q names (Deliver k) w ≡ cond w.trace (told (slice_get names x.end) x.arrival (heard_of q w k x)) []
  written_there x e =
      ap (λ (o : Option Item). cond w.trace (heard_line q names (Deliver k) w o) []) e
      ∙ ap (λ (t : List ℕ). cond w.trace t []) (parts_are x (slice_get names x.end) (slice_get w.net.ends x.end) (node_facts w (slice_get w.net.ends x.end)))

  pub written_nowhere : slice_get w.flight k ≡ None → [] ≡ written q names (Deliver k) w
  written_nowhere e = sym (ap (λ (o : Option Item). cond w.trace (heard_line q names (Deliver k) w o) []) e ∙ by w.trace)
    where
      by : (b : Bool) → cond {A = List ℕ} b [] [] ≡ []
      by true = refl
      by false = refl

-- ---- the kind of what bytes spell
module _ (bytes : List ℕ) (r : Result Message MsgErr) (only : (v : Message) → Spells bytes v → r ≡ Ok v) (first : (e : MsgErr) → IsFirstFault bytes e → r ≡ Err e) where
  pub kind_found : (m : Message) (k : Kind) → r ≡ Ok m → k ≡ kind_of m → (a : Arrival) → IsArrival bytes a → Some k ≡ arrival_kind a
  kind_found m k is e (Spelt v) s = let same : Ok m ≡ Ok v = sym is ∙ only v s in let eq : m ≡ v = cc in ap (λ (x : Kind). Some x) (e ∙ ap kind_of eq)
  kind_found m k is e (Unspelt f) s = let no : Ok m ≡ Err f = sym is ∙ first f s in absurd (cc)

  pub kind_none : (f : MsgErr) → r ≡ Err f → (a : Arrival) → IsArrival bytes a → None ≡ arrival_kind a
  kind_none f is (Spelt v) s = let no : Err f ≡ Ok v = sym is ∙ only v s in absurd (cc)
  kind_none f is (Unspelt g) s = refl

-- ---- what is told of a delivery
pub told_here : (q : ℕ) (names : List (List ℕ)) (w : World) (k : ℕ) (x : Item) (trace : Bool) (end : ℕ) (h : Option Heard) → slice_get w.flight k ≡ Some x → end ≡ x.end → trace ≡ w.trace
    → h ≡ heard_of q w k x
    → cond trace (told (slice_get names end) x.arrival h) [] ≡ written q names (Deliver k) w
told_here q names w k x trace end h there e on heard =
    ap (λ b. cond b (told (slice_get names end) x.arrival h) []) on
    ∙ ap (λ n. cond w.trace (told (slice_get names n) x.arrival h) []) e
    ∙ ap (λ (o : Option Heard). cond w.trace (told (slice_get names x.end) x.arrival o) []) heard
    ∙ sym (written_there q names w k x there)
