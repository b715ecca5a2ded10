use Rattle.std.proofs.Common.{sym, ap, ◌∙◌}
use Rattle.rsvp_base.specs.declared.style.StyleKind.TheVariants.{Wild, Fixed, Shared}
use Rattle.laws_sends.specs.Seen.{own_at, toward_at, up_at}
use Rattle.laws_sends.proofs.Seeing.{merged_is}
use Rattle.router_state.specs.Whole.{state_of}
use Rattle.resv_sends.proofs.upward.merged.Goals as goal

pub returns-in-Wild : goal.returns-in-Wild
returns-in-Wild c = λ clock said a b.
    let n = state_of c.args.tables.now said in
    let s = c.args.session in
    let hop = c.args.hop in
    c.toward.ensures ∙ merged_is clock n s hop c.args.up.now c.args.own.now Wild (a ∙ ap (λ z. up_at clock n s z hop) c.in-Wild.is) (b ∙ ap (λ z. own_at clock n s z hop) c.in-Wild.is)
    ∙ ap (λ z. toward_at clock n s z hop) (sym c.in-Wild.is)

pub returns-in-Fixed : goal.returns-in-Fixed
returns-in-Fixed c = λ clock said a b.
    let n = state_of c.args.tables.now said in
    let s = c.args.session in
    let hop = c.args.hop in
    c.toward-in-Fixed.ensures ∙ merged_is clock n s hop c.args.up.now c.args.own.now Fixed (a ∙ ap (λ z. up_at clock n s z hop) c.in-Fixed.is) (b ∙ ap (λ z. own_at clock n s z hop) c.in-Fixed.is)
    ∙ ap (λ z. toward_at clock n s z hop) (sym c.in-Fixed.is)

pub returns-in-Shared : goal.returns-in-Shared
returns-in-Shared c = λ clock said a b.
    let n = state_of c.args.tables.now said in
    let s = c.args.session in
    let hop = c.args.hop in
    c.toward-in-Shared.ensures ∙ merged_is clock n s hop c.args.up.now c.args.own.now Shared (a ∙ ap (λ z. up_at clock n s z hop) c.in-Shared.is) (b ∙ ap (λ z. own_at clock n s z hop) c.in-Shared.is)
    ∙ ap (λ z. toward_at clock n s z hop) (sym c.in-Shared.is)
