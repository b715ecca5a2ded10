-- The limits by session, for senders, paths and wants.
use Rattle.std.specs.Prelude.{◌≡◌, Bool}
use Rattle.std.proofs.Common.{ap, ⊎_elim}
use Rattle.router_rules.specs.RsvpBase.declared.session.Sender.{Sender}
use Rattle.router_rules.specs.RsvpBase.declared.session.Session.{Session}
use Rattle.router_rules.specs.RsvpBase.declared.style.StyleKind.{StyleKind}
use Rattle.router_rules.specs.RsvpBase.declared.style.StyleKind.TheVariants.{Wild, Fixed, Shared}
use Rattle.router_rules.specs.RsvpBase.declared.style.Unit.TheVariants.{Of}
use Rattle.router_rules.specs.RsvpBase.Members.{In}
use Rattle.router_rules.specs.RsvpBase.Orders.{Names, senders, units}
use Rattle.router_rules.specs.RsvpBase.Table.{keys}
use Rattle.router_rules.specs.RsvpBase.TokenBucket.{TokenBucket}
use Rattle.router_rules.proofs.RsvpBase.Members.{in_each}
use Rattle.router_rules.proofs.RsvpBase.SessionRoom.{put_room, rows_room}
use Rattle.router_rules.specs.RsvpMessages.Units.{only}
use Rattle.router_rules.specs.Calls.{wanted}
use Rattle.router_rules.specs.Facts.{Want, WantKey}
use Rattle.laws_bounds.specs.FactLaws.{RoomTells}

-- a call's wants are of its session
all_of : (s : Session) (st : StyleKind) (names : Names) (flow : TokenBucket) (mark : Bool) (e : WantKey × Want) → In e (wanted s st names flow mark) → e.0.0 ≡ s
all_of s Wild names flow mark e i = ⊎_elim (λ (is : e ≡ _). ap (λ (z : WantKey × Want). z.0.0) is) (λ (n : ⊥). absurd n) i
all_of s Shared names flow mark e i = ⊎_elim (λ (is : e ≡ _). ap (λ (z : WantKey × Want). z.0.0) is) (λ (n : ⊥). absurd n) i
all_of s Fixed names flow mark e i =
    let r = in_each (λ (x : Sender). ((s, Of x), record { style = Fixed; part = record { senders = only x; flow = flow }; confirm = mark })) e (keys names) i in ap (λ (z : WantKey × Want). z.0.0) r.2

pub room_tells : RoomTells
room_tells =
    record {
      of_senders = λ f k tspec w. put_room senders f.senders k tspec w;
      of_paths = λ f k x w. put_room senders f.paths k x w;
      of_wants = λ f s st names flow mark w. rows_room units f.wants (wanted s st names flow mark) s (all_of s st names flow mark) w;
    }
