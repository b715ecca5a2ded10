-- A step keeps a node within bounds: all parts together.
use Rattle.std.specs.Prelude.{◌≡◌, ℕ, ◌≤◌, List, Some}
use Rattle.std.proofs.Common.{sym, ap, subst, ⊎_elim, arith}
use Rattle.rsvp_base.specs.declared.iface.Iface.{Iface}
use Rattle.rsvp_base.specs.Table.{get}
use Rattle.router_rules.specs.declared.route.Route.{Route}
use Rattle.style_rules.specs.declared.target.Target.{Target}
use Rattle.style_rules.specs.declared.target.Target.TheVariants as target
use Rattle.router_rules.specs.Act.{act}
use Rattle.router_rules.specs.Bounds.{AreAlive, AreShaped, AreWithinLimits, IsPathShaped, IsTarget, IsWithinBounds}
use Rattle.router_rules.specs.Facts.{Facts, PathState}
use Rattle.router_rules.specs.Inputs.{Input}
use Rattle.router_rules.specs.NodeConfig.{NodeConfig}
use Rattle.laws_bounds.specs.Sources.{IsLearnt}
use Rattle.router_rules.specs.Steps.{IsFit, IsSameNode, clock_after, facts_then}
use Rattle.laws_bounds.proofs.Framing.{wants_then}
use Rattle.laws_bounds.proofs.Stepping.{came_from}
use Rattle.laws_bounds.specs.BoundLaws.{AStepKeepsANodeWithinBounds}
use Rattle.laws_bounds.proofs.Keeping.{IsSet, due_within, few_walls, lives_on, path_fits, paths_outlive, paths_within, time_passes, walls_outlive, walls_source}
use Rattle.laws_bounds.proofs.LocalFacts.{AreSendersWithin, AreWantsWithin, marks_keep, senders_keep, wants_keep}
use Rattle.laws_bounds.proofs.Reserving.{AreResvsWithin, lives_new, of_bounds, resvs_within}

module _ (old p : NodeConfig) (b : ℕ) (i : Input) (f : Facts) (some : 1 ≤ p.quarter) (fit : IsFit p i) (w : IsWithinBounds p b f) where
  abbrev c : ℕ
  c = clock_after b i

  abbrev then_facts : Facts
  then_facts = facts_then old p (clock_after b i) i f

  resvs : AreResvsWithin p c then_facts
  resvs = resvs_within old p b i f fit (of_bounds p b f w)

  locals : AreSendersWithin then_facts.senders
  locals = senders_keep p (clock_after b i) i f fit (record { sound = w.shapes.senders; limits = w.limits.senders })

  wants : AreWantsWithin then_facts.wants
  wants =
      marks_keep (act p (clock_after b i) i f).facts.wants then_facts.wants (wants_then old p (clock_after b i) i f)
      (wants_keep p (clock_after b i) i f fit (record { shaped = w.shapes.wants; one_style = w.shapes.one_style; limits = w.limits.wants }))

  alive : AreAlive p c then_facts
  alive =
      record {
        paths = λ k x e.
            ⊎_elim
            (λ (was : get f.paths k ≡ Some x). let l = w.alive.paths k x was in lives_on b (clock_after b i) _ x.dies (time_passes b i) l (paths_outlive p b i f k x e l.later))
            (λ (new : IsLearnt p (clock_after b i) i k x). lives_new p (clock_after b i) new.by.path.period x.dies (ap (λ (z : PathState). z.dies) new.is))
            (came_from old p (clock_after b i) i f k x e);
        resvs = resvs.lives;
        walls = λ k x e.
            ⊎_elim
            (λ (was : get f.walls k ≡ Some x). let l = w.alive.walls k x was in lives_on b (clock_after b i) _ x.dies (time_passes b i) l (walls_outlive p b i f k x e l.later))
            (λ (new : IsSet p (clock_after b i) k x). let dies = new.dies in record { later = omega (arith, dies, some); soon = omega (arith, dies) })
            (walls_source p (clock_after b i) i f k x fit e);
      }

  shapes : AreShaped p then_facts
  shapes =
      record {
        senders = locals.sound;
        paths = λ k x e.
            ⊎_elim (λ (was : get f.paths k ≡ Some x). w.shapes.paths k x was)
            (λ (new : IsLearnt p (clock_after b i) i k x).
            let fits = path_fits p i k new.by fit in subst (IsPathShaped p) (sym new.is) (record { iface = fits.0; tspec = fits.1.0; adspec = fits.1.1 }))
            (came_from old p (clock_after b i) i f k x e);
        resvs = resvs.shapes;
        wants = wants.shaped;
        walls = λ k x e.
            ⊎_elim (λ (was : get f.walls k ≡ Some x). w.shapes.walls k x was) (λ (new : IsSet p (clock_after b i) k x). record { iface = new.target; flow = new.flow })
            (walls_source p (clock_after b i) i f k x fit e);
        one_style = wants.one_style;
      }

  limits : AreWithinLimits then_facts
  limits =
      record {
        senders = locals.limits;
        wants = wants.limits;
        paths = paths_within p (clock_after b i) i f w.limits.paths;
        resvs = resvs.limits;
        walls = few_walls p (clock_after b i) i f w.limits.walls;
      }

  pub kept_within : IsWithinBounds p c then_facts
  kept_within = record { alive = alive; due = due_within old p b i f fit some w.due; shapes = shapes; limits = limits; booked = resvs.booked }

-- ---- bounds know no routes
target_there : (p : NodeConfig) (routes : List Route) (t : Target) → IsTarget p t → IsTarget (record p { routes = routes }) t
target_there p routes (target.Hop i a) h = h
target_there p routes (target.Sender s) h = h

rerouted : (p : NodeConfig) (routes : List Route) (b : ℕ) (f : Facts) → IsWithinBounds p b f → IsWithinBounds (record p { routes = routes }) b f
rerouted p routes b f w =
    record {
      alive = record { paths = λ k x e. w.alive.paths k x e; resvs = λ st k r e. w.alive.resvs st k r e; walls = λ k x e. w.alive.walls k x e };
      due = record { counted = w.due.counted; moment = λ s t e. w.due.moment s t e };
      shapes =
          record {
            senders = w.shapes.senders;
            paths = λ k x e. let s = w.shapes.paths k x e in record { iface = s.iface; tspec = s.tspec; adspec = s.adspec };
            resvs = λ st k r e. let s = w.shapes.resvs st k r e in record { iface = s.iface; style = s.style; unit = s.unit; names = s.names; flow = s.flow };
            wants = w.shapes.wants;
            walls = λ k x e. let s = w.shapes.walls k x e in record { iface = target_there p routes k.1 s.iface; flow = s.flow };
            one_style = w.shapes.one_style;
          };
      limits = w.limits;
      booked = record { capacity = λ i on e. w.booked.capacity i on e; mtu = λ i on k part e g. w.booked.mtu i on k part e g };
    }

pub same_node : (old p : NodeConfig) (b : ℕ) (f : Facts) → IsSameNode old p → IsWithinBounds old b f → IsWithinBounds p b f
same_node old p b f same w =
    rerouted (record old { quarter = p.quarter; ifaces = p.ifaces }) p.routes b f
    (subst (λ (z : ℕ × List Iface). IsWithinBounds (record old { quarter = z.0; ifaces = z.1 }) b f) (λ j. (same.quarter j, same.ifaces j)) w)

pub a_step_keeps_a_node_within_bounds : AStepKeepsANodeWithinBounds
a_step_keeps_a_node_within_bounds old p b i f same fit w = kept_within old p b i f same.some fit (same_node old p b f same w)
