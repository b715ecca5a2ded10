-- Rounds among lines that only write count together.
use Rattle.std.proofs.Common.{◌≡◌, ℕ, ◌+◌, List, [], ◌∷◌, Bool, true, arith, refl, sym, ap, subst, ◌∙◌}
use Rattle.std.specs.Prelude.{◌++◌, length}
use Rattle.std.proofs.lemmas.List.{length-append}
use Rattle.rsvp_base.specs.Members.{In}
use Rattle.calm_rounds.specs.Machine.{all_arrived, all_sent, run}
use Rattle.calm_rounds.specs.Rounds.{Calm, Rounds as CalmRounds}
use Rattle.network_model.specs.Bounds.{all_of}
use Rattle.network_model.specs.Events.{AtNode, ClearNode, CopyAt, DeliverAt, Event, Injects, LoseAt, Pass, Reports, ReportsFlags, ReportsAdverts, Reroutes, Rounds, Traces, Waits, all_steps, rounds}
use Rattle.tree_model.specs.Networks.{Net}
use Rattle.network_model.specs.Steps.{Flags, Adverts, Report, Step, Trace, machine, serves_key, step}
use Rattle.network_model.specs.Worlds.{Item, World}
use Rattle.laws_network.specs.Rounds.{rounds_of}
use Rattle.laws_network.proofs.Calming.{rounds_is_calm}
use Rattle.script_theorem.specs.RoundsAmong.{AreRoundsAndWriting, AreRoundsThenWriting, RoundsAmongWritingCount, rounds_among}
use Rattle.script_theorem.specs.Writing.{OnlyWrite, only_writes}
use Rattle.script_theorem.proofs.Writing.{idle, joined, run_then}

module _ (q : ℕ) where
  -- ---- one step before a round
  calm_behind : (s : Step) (r : List Step) (w : World) → only_writes s ≡ true → Calm (machine q) r (step q s w) → Calm (machine q) (s ∷ r) w
  calm_behind s r w writes c =
      let i = idle q s w writes in
      let time = i.no_time in
      let long = c.long in
      let short = c.short in
      record {
        silent = (i.calm, c.silent);
        long = omega (arith, time, long);
        short = omega (arith, time, short);
        flushed = λ x j. let later = c.flushed x j in omega (arith, later);
        crossed = λ x t j e on.
            let same = subst (λ (z : Net). serves_key z t t.key ≡ true) (sym i.net) on in
            let k = c.crossed x t (subst (λ (z : List (Item × Bool)). In (x, true) (z ++ all_sent (machine q) r (step q s w))) i.none_sent j) e same in (
              k.0,
              subst (λ (z : List (Item × Bool)). In (k.0, true) (z ++ all_sent (machine q) r (step q s w))) (sym i.none_sent) k.1,
              k.2,
              subst (λ (z : List Item). In k.0 (z ++ all_arrived (machine q) r (step q s w))) (sym i.none_arrives) k.3,
            );
      }

  then_written : (s : Step) (ss : List Step) (w : World) (n : ℕ) → only_writes s ≡ true → AreRoundsThenWriting q (step q s w) ss n → AreRoundsThenWriting q w (s ∷ ss) n
  then_written s ss w n writes r = by r.rounds r.parts r.calm r.number
    where
      by : (rs : List (List Step)) → ss ≡ all_of rs ++ r.still → CalmRounds (machine q) rs (step q s w) → length rs ≡ n → AreRoundsThenWriting q w (s ∷ ss) n
      by [] parts calm number = record { rounds = []; still = s ∷ r.still; parts = ap (λ (z : List Step). s ∷ z) parts; calm = tt; number = number; writes = (writes, r.writes) }
      by (x ∷ rs) parts calm number = record {
        rounds = (s ∷ x) ∷ rs;
        still = r.still;
        parts = ap (λ (z : List Step). s ∷ z) parts;
        calm = (calm_behind s x w writes calm.0, calm.1);
        number = number;
        writes = r.writes;
      }

  -- ---- rounds and more rounds
  all_joined : (rs us : List (List Step)) → all_of (rs ++ us) ≡ all_of rs ++ all_of us
  all_joined [] us = refl
  all_joined (r ∷ rs) us = ap (λ (z : List Step). r ++ z) (all_joined rs us) ∙ sym (joined q r (all_of rs) (all_of us))

  calm_joined : (rs us : List (List Step)) (w : World) → CalmRounds (machine q) rs w → CalmRounds (machine q) us (run (machine q) (all_of rs) w) → CalmRounds (machine q) (rs ++ us) w
  calm_joined [] us w c d = d
  calm_joined (r ∷ rs) us w c d = (c.0, calm_joined rs us (run (machine q) r w) c.1 (subst (λ (z : World). CalmRounds (machine q) us z) (run_then q r (all_of rs) w) d))

  after_rounds : (n : ℕ) (ss : List Step) (w : World) (m : ℕ) → AreRoundsThenWriting q (run (machine q) (rounds q n w) w) ss m → AreRoundsThenWriting q w (rounds q n w ++ ss) (n + m)
  after_rounds n ss w m r =
      let c = rounds_is_calm q n w in
      let many = c.number in
      let more = r.number in
      let both = length-append (rounds_of q n w) r.rounds in
      record {
        rounds = rounds_of q n w ++ r.rounds;
        still = r.still;
        parts =
            ap (λ (z : List Step). z ++ ss) c.steps ∙ ap (λ (z : List Step). all_of (rounds_of q n w) ++ z) r.parts
            ∙ sym (joined q (all_of (rounds_of q n w)) (all_of r.rounds) r.still) ∙ ap (λ (z : List Step). z ++ r.still) (sym (all_joined (rounds_of q n w) r.rounds));
        calm = calm_joined (rounds_of q n w) r.rounds w c.calm (subst (λ (z : List Step). CalmRounds (machine q) r.rounds (run (machine q) z w)) c.steps r.calm);
        number = omega (arith, both, many, more);
        writes = r.writes;
      }

pub rounds_among_writing_count : RoundsAmongWritingCount
rounds_among_writing_count q [] w h = record { rounds = []; still = []; parts = refl; calm = tt; number = refl; writes = tt }
rounds_among_writing_count q (Rounds n ∷ es) w h = after_rounds q n (all_steps q es (run (machine q) (rounds q n w) w)) w (rounds_among es)
    (rounds_among_writing_count q es (run (machine q) (rounds q n w) w) h)
rounds_among_writing_count q (Reports e ∷ es) w h = then_written q (Report e) (all_steps q es (step q (Report e) w)) w (rounds_among es) refl (rounds_among_writing_count q es (step q (Report e) w) h)
rounds_among_writing_count q (ReportsFlags ∷ es) w h = then_written q Flags (all_steps q es (step q Flags w)) w (rounds_among es) refl (rounds_among_writing_count q es (step q Flags w) h)
rounds_among_writing_count q (ReportsAdverts ∷ es) w h = then_written q Adverts (all_steps q es (step q Adverts w)) w (rounds_among es) refl (rounds_among_writing_count q es (step q Adverts w) h)
rounds_among_writing_count q (Traces on ∷ es) w h = then_written q (Trace on) (all_steps q es (step q (Trace on) w)) w (rounds_among es) refl (rounds_among_writing_count q es (step q (Trace on) w) h)
rounds_among_writing_count q (AtNode n l ∷ es) w h = absurd h
rounds_among_writing_count q (Waits ms ∷ es) w h = absurd h
rounds_among_writing_count q (Pass n ∷ es) w h = absurd h
rounds_among_writing_count q (DeliverAt k ∷ es) w h = absurd h
rounds_among_writing_count q (LoseAt k ∷ es) w h = absurd h
rounds_among_writing_count q (CopyAt k ∷ es) w h = absurd h
rounds_among_writing_count q (ClearNode n ∷ es) w h = absurd h
rounds_among_writing_count q (Injects e dst a ∷ es) w h = absurd h
rounds_among_writing_count q (Reroutes g s hops ∷ es) w h = absurd h

-- and if there are none, only writing is left
pub none_of_them_waits : (q : ℕ) (es : List Event) (w : World) → AreRoundsAndWriting es → rounds_among es ≡ 0 → OnlyWrite (all_steps q es w)
none_of_them_waits q es w h none = by c.rounds c.parts c.number
  where
    c : AreRoundsThenWriting q w (all_steps q es w) (rounds_among es)
    c = rounds_among_writing_count q es w h

    by : (rs : List (List Step)) → all_steps q es w ≡ all_of rs ++ c.still → length rs ≡ rounds_among es → OnlyWrite (all_steps q es w)
    by [] parts number = subst OnlyWrite (sym parts) c.writes
    by (r ∷ rs) parts number = absurd (omega (arith, number, none))
