-- In a run, a report at a purged moment appends the text of books that are at most the demands.
use Rattle.std.proofs.Common.{◌≡◌, ℕ, ◌<◌, List, ◌∷◌, false, Option, None, Some, arith, sym, ap, subst, ◌∙◌}
use Rattle.std.specs.Prelude.{◌++◌, length, slice_get}
use Rattle.rsvp_base.specs.Table.{empty}
use Rattle.style_rules.specs.Lines.{BookTable}
use Rattle.router_rules.specs.Books.{book}
use Rattle.router_rules.specs.Facts.{Facts}
use Rattle.tree_model.specs.Goals.{demand_of}
use Rattle.tree_model.specs.Networks.{iface_of, node_of}
use Rattle.network_model.specs.Bounds.{AreBounds, IsPurged, to_purge}
use Rattle.network_model.specs.Locals.{locals_of}
use Rattle.network_model.specs.Runs.{Plan, first_world, is_crowded_run, steps_of_run, text_of}
use Rattle.network_model.specs.Steps.{Report, Step, step}
use Rattle.network_model.specs.Worlds.{World}
use Rattle.laws_network.specs.Runs.{IsFitRun}
use Rattle.settle_network.specs.Purged.{IsBookAtMost}
use Rattle.settle_network.proofs.Purged.{a_run_is_purged}
use Rattle.script_theorem.specs.Demands.{moment}
use Rattle.script_theorem.specs.Purged.{APurgedReportIsAtMostTheDemand, AppendsAtMostTheDemand}
use Rattle.script_theorem.specs.Writing.{OnlyWrite}
use Rattle.script_theorem.proofs.Demands.{all_made, bounds_there, text_then}
use Rattle.script_theorem.proofs.Texts.{facts_there, report_is_of_books}
use Rattle.script_theorem.proofs.Writing.{a_moment_stays_calm}

-- the book that is kept for an end
abbrev book_by : Option Facts → ℕ → BookTable
book_by None i = empty
book_by (Some f) i = book f i

abbrev book_kept : World → ℕ → BookTable
book_kept u e = book_by (slice_get u.nodes (node_of u.net.ends e)) (iface_of u.net.ends e)

module _ (p : Plan) (fit : IsFitRun p) (uncrowded_run : is_crowded_run p ≡ false) (ss still : List Step) (e : Option ℕ) (ts : List Step)
    (parts : steps_of_run p ≡ (ss ++ still) ++ Report e ∷ ts) where
  abbrev q : ℕ
  q = p.quarter

  abbrev w : World
  w = first_world p

  abbrev u : World
  u = moment p (ss ++ still)

  pub bounds : AreBounds q u
  bounds = bounds_there p fit (ss ++ still) (Report e ∷ ts) parts

  -- what holds of the facts of each end's node holds of the book that is kept for the end
  pub of_kept : (P : BookTable → BookTable → Type 0) → ((i : ℕ) (f : Facts) → i < length u.net.ends → slice_get u.nodes (node_of u.net.ends i) ≡ Some f
      → P (book f (iface_of u.net.ends i)) (demand_of u.net (locals_of u) i)) → (i : ℕ) → i < length u.net.ends → P (book_kept u i) (demand_of u.net (locals_of u) i)
  of_kept P holds i lt =
      let f = facts_there q u bounds i lt in
      subst (λ (o : Option Facts). P (book_by o (iface_of u.net.ends i)) (demand_of u.net (locals_of u) i)) (sym f.1) (holds i f.0 lt f.1)

  abbrev pub at_most : IsPurged q w ss → OnlyWrite still → AppendsAtMostTheDemand p (ss ++ still) e ts
  at_most is writes =
      record {
        books = book_kept u;
        below = of_kept IsBookAtMost (a_run_is_purged p fit (ss ++ still) (Report e ∷ ts) parts (a_moment_stays_calm to_purge (λ long. omega arith) q w ss still writes is)).books;
        text =
            ap (λ (z : List Step). text_of q p.names z w) (all_made q p.names (steps_of_run p) w uncrowded_run ∙ parts)
            ∙ text_then q p.names (ss ++ still) (Report e ∷ ts) w
            ∙ ap (λ (z : List ℕ). text_of q p.names (ss ++ still) w ++ (z ++ text_of q p.names ts (step q (Report e) u)))
            (report_is_of_books q p.names u bounds (book_kept u) (λ i f lt at. ap (λ (o : Option Facts). book_by o (iface_of u.net.ends i)) (sym at)) e);
      }

pub a_purged_report_is_at_most_the_demand : APurgedReportIsAtMostTheDemand
a_purged_report_is_at_most_the_demand p fit uncrowded_run ss still e ts parts is writes = at_most p fit uncrowded_run ss still e ts parts is writes
