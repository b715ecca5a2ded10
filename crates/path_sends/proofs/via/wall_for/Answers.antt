use Rattle.std.proofs.Common.{ℕ, sym, ap, ◌∙◌}
use Rattle.std.specs.Option.{option_map}
use Rattle.blockade_state.specs.Blockades.{WallMap}
use Rattle.rsvp_base.specs.Table.{get}
use Rattle.style_rules.specs.declared.wall.Wall.{Wall}
use Rattle.style_rules.specs.declared.target.Target.TheVariants as target
use Rattle.laws_sends.specs.Seen.{wall_seen}
use Rattle.laws_sends.proofs.Seeing.{fixed_wall, shared_wall, wild_wall}
use Rattle.path_sends.proofs.via.wall_for.Goals as goal

pub returns-in-Wild : goal.returns-in-Wild
returns-in-Wild c = λ clock n aw.
    c.of.ensures.wall ∙ ap (λ (m : WallMap). option_map (λ (e : Wall × ℕ). e.0) (get m (c.args.session, target.Hop c.args.hop.0 c.args.hop.1))) (sym aw)
    ∙ wild_wall clock n c.args.session c.args.hop c.args.name ∙ ap (λ z. wall_seen clock n c.args.session z c.args.hop c.args.name) (sym c.in-Wild.is)

pub returns-in-Fixed : goal.returns-in-Fixed
returns-in-Fixed c = λ clock n aw.
    c.of-in-Fixed.ensures.wall ∙ ap (λ (m : WallMap). option_map (λ (e : Wall × ℕ). e.0) (get m (c.args.session, target.Sender c.args.name))) (sym aw)
    ∙ fixed_wall clock n c.args.session c.args.hop c.args.name ∙ ap (λ z. wall_seen clock n c.args.session z c.args.hop c.args.name) (sym c.in-Fixed.is)

pub returns-in-Shared : goal.returns-in-Shared
returns-in-Shared c = λ clock n aw.
    c.of-in-Shared.ensures.wall ∙ ap (λ (m : WallMap). option_map (λ (e : Wall × ℕ). e.0) (get m (c.args.session, target.Sender c.args.name))) (sym aw)
    ∙ shared_wall clock n c.args.session c.args.hop c.args.name ∙ ap (λ z. wall_seen clock n c.args.session z c.args.hop c.args.name) (sym c.in-Shared.is)
