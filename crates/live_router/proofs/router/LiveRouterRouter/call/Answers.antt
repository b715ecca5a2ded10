use Rattle.std.proofs.Common.{subst, ◌∙◌}
use Rattle.std.proofs.lemmas.Result.{on_err_weaker}
use Rattle.router_rules.specs.Inputs.{AdvertAs, Call, DropAs, QuitAll, SendAs, WantAs}
use Rattle.router_rules.specs.Steps.{IsFitCall}
use Rattle.live_router.specs.Bounded.{IsBounded}
use Rattle.live_router.proofs.Doing.{sends_proper, stays_bounded}
use Rattle.network_model.specs.Happenings.{call_of}
use Rattle.network_model.specs.declared.local_call.LocalCall.{LocalCall}
use Rattle.live_router.proofs.Living.{lives_on}
use Rattle.live_router.proofs.router.LiveRouterRouter.call.Goals as goal

pub invariant_of-self : goal.invariant_of-self
invariant_of-self g c =
    let fit = subst (λ (x : LocalCall). IsFitCall (call_of x)) c.in-Send.is c.requires in
    lives_on c.self.inside.node c.local_send.new.self c.self.inside.spare.items c.self.invariant c.local_send.ensures.place
    (stays_bounded c.self.inside.node c.local_send.new.self 0 (Call (SendAs c.in-Send.session c.in-Send.sender c.in-Send.flow)) c.self.invariant.bounded c.local_send.ensures.place fit
    (c.local_send.ensures.facts 0))

pub returns-in-Send-clause-fit : goal.returns-in-Send-clause-fit
returns-in-Send-clause-fit g c = λ clock. sends_proper c.args.self.now clock (Call (call_of c.args.call.now)) (subst IsBounded c.self.view_is c.self.invariant.bounded) c.requires

pub invariant_of-self-in-Advert : goal.invariant_of-self-in-Advert
invariant_of-self-in-Advert g c =
    let fit = subst (λ (x : LocalCall). IsFitCall (call_of x)) c.in-Advert.is c.requires in
    lives_on c.self.inside.node c.local_advert.new.self c.self.inside.spare.items c.self.invariant c.local_advert.ensures.place
    (stays_bounded c.self.inside.node c.local_advert.new.self 0 (Call (AdvertAs c.in-Advert.session c.in-Advert.sender)) c.self.invariant.bounded c.local_advert.ensures.place fit
    (c.local_advert.ensures.facts 0))

pub returns-in-Advert-clause-fit : goal.returns-in-Advert-clause-fit
returns-in-Advert-clause-fit g c = λ clock. sends_proper c.args.self.now clock (Call (call_of c.args.call.now)) (subst IsBounded c.self.view_is c.self.invariant.bounded) c.requires

pub invariant_of-self-in-Gone : goal.invariant_of-self-in-Gone
invariant_of-self-in-Gone g c =
    let fit = subst (λ (x : LocalCall). IsFitCall (call_of x)) c.in-Gone.is c.requires in
    lives_on c.self.inside.node c.local_drop.new.self c.self.inside.spare.items c.self.invariant c.local_drop.ensures.place
    (stays_bounded c.self.inside.node c.local_drop.new.self 0 (Call (DropAs c.in-Gone.session c.in-Gone.sender)) c.self.invariant.bounded c.local_drop.ensures.place fit (c.local_drop.ensures.facts 0))

pub returns-in-Gone-clause-fit : goal.returns-in-Gone-clause-fit
returns-in-Gone-clause-fit g c = λ clock. sends_proper c.args.self.now clock (Call (call_of c.args.call.now)) (subst IsBounded c.self.view_is c.self.invariant.bounded) c.requires

pub invariant_of-self-in-Want : goal.invariant_of-self-in-Want
invariant_of-self-in-Want g c =
    let fit = subst (λ (x : LocalCall). IsFitCall (call_of x)) c.in-Want.is c.requires in
    lives_on c.self.inside.node c.local_want.new.self c.self.inside.spare.items c.self.invariant c.local_want.ensures.place
    (stays_bounded c.self.inside.node c.local_want.new.self 0
    (Call (WantAs c.in-Want.session c.in-Want.style c.in-Want.senders c.in-Want.flow c.in-Want.confirm)) c.self.invariant.bounded c.local_want.ensures.place fit (c.local_want.ensures.facts 0))

pub returns-in-Want-clause-fit : goal.returns-in-Want-clause-fit
returns-in-Want-clause-fit g c = λ clock. sends_proper c.args.self.now clock (Call (call_of c.args.call.now)) (subst IsBounded c.self.view_is c.self.invariant.bounded) c.requires

pub invariant_of-self-in-Quit : goal.invariant_of-self-in-Quit
invariant_of-self-in-Quit g c =
    let fit = subst (λ (x : LocalCall). IsFitCall (call_of x)) c.in-Quit.is c.requires in
    lives_on c.self.inside.node c.local_quit.new.self c.self.inside.spare.items c.self.invariant c.local_quit.ensures.place
    (stays_bounded c.self.inside.node c.local_quit.new.self 0 (Call (QuitAll c.in-Quit.session)) c.self.invariant.bounded c.local_quit.ensures.place fit (c.local_quit.ensures.facts 0))

pub returns-in-Quit-clause-fit : goal.returns-in-Quit-clause-fit
returns-in-Quit-clause-fit g c = λ clock. sends_proper c.args.self.now clock (Call (call_of c.args.call.now)) (subst IsBounded c.self.view_is c.self.invariant.bounded) c.requires

pub returns-in-Send-clause-kept : goal.returns-in-Send-clause-kept
returns-in-Send-clause-kept g c = on_err_weaker c.local_send.result (λ same. same ∙ c.self.view_is) c.local_send.ensures.kept

pub returns-in-Advert-clause-kept : goal.returns-in-Advert-clause-kept
returns-in-Advert-clause-kept g c = on_err_weaker c.local_advert.result (λ same. same ∙ c.self.view_is) c.local_advert.ensures.kept

pub returns-in-Gone-clause-kept : goal.returns-in-Gone-clause-kept
returns-in-Gone-clause-kept g c = on_err_weaker c.local_drop.result (λ same. same ∙ c.self.view_is) c.local_drop.ensures.kept

pub returns-in-Want-clause-kept : goal.returns-in-Want-clause-kept
returns-in-Want-clause-kept g c = on_err_weaker c.local_want.result (λ same. same ∙ c.self.view_is) c.local_want.ensures.kept

pub returns-in-Quit-clause-kept : goal.returns-in-Quit-clause-kept
returns-in-Quit-clause-kept g c = on_err_weaker c.local_quit.result (λ same. same ∙ c.self.view_is) c.local_quit.ensures.kept
