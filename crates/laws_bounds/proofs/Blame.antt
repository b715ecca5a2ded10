-- Whom an error blames, and whom it lists.
use Rattle.std.specs.Prelude.{◌≡◌, false, [], ◌∷◌, Option, Some, None, refl}
use Rattle.std.proofs.Common.{sym, ap, ◌∙◌}
use Rattle.router_rules.specs.RsvpBase.Orders.{Names}
use Rattle.router_rules.specs.RsvpBase.TokenBucket.{TokenBucket}
use Rattle.router_rules.specs.RsvpMessages.declared.message.ResvErrMsg.{ResvErrMsg}
use Rattle.router_rules.specs.Lines.{NextHop}
use Rattle.router_rules.specs.Asking.{Asker, Blamed, Nobody, Everyone, These, as_listed, losses, refusal}
use Rattle.router_rules.specs.Errors.{error_listing, error_to}
use Rattle.router_rules.specs.NodeConfig.{NodeConfig}

abbrev listed_by : Blamed → Option Names
listed_by Nobody = None
listed_by Everyone = None
listed_by (These names) = Some names

listed_same : (a : Option Names) → listed_by (as_listed a) ≡ a
listed_same None = refl
listed_same (Some names) = refl

pub one_list : (a b : Option Names) → as_listed a ≡ as_listed b → a ≡ b
one_list a b e = sym (listed_same a) ∙ ap listed_by e ∙ listed_same b

pub these_are : (a : Option Names) (names : Names) → These names ≡ as_listed a → a ≡ Some names
these_are a names e = one_list a (Some names) (sym e)

pub never_nobody : {A : Type 0} (a : Option Names) → Nobody ≡ as_listed a → A
never_nobody None e = absurd (cc)
never_nobody (Some names) e = absurd (cc)

-- an error with this list goes to the hop
pub sent_listing : (p : NodeConfig) (m : ResvErrMsg) (hop : NextHop) (names : Option Names) → error_to p m hop (as_listed names) ≡ Some (error_listing p m hop names)
sent_listing p m hop None = refl
sent_listing p m hop (Some names) = refl

pub lost_listing : (p : NodeConfig) (o : Asker) (flow : TokenBucket) (names : Option Names) → losses p o flow (as_listed names) ≡ refusal p o false 4 0 names flow ∷ []
lost_listing p o flow None = refl
lost_listing p o flow (Some names) = refl
