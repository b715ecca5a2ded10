use Rattle.std.proofs.Common.{◌≡◌, ℕ, List, Some, None, sym, ap, ◌∙◌}
use Rattle.rsvp_objects.specs.Fields.{word_at}
use Rattle.rsvp_objects.specs.Fragment.{is_broken, behind_in}
use Rattle.rsvp_objects.specs.Form.{words_in, values_in}
use Rattle.rsvp_objects.proofs.AdspecContents.{values_some, values_none, rest_is}
use Rattle.rsvp_objects.proofs.adspec_reading.values_of.Goals as goal

pub returns-in_err-load : goal.returns-in_err-load
returns-in_err-load c =
    let body = c.args.body.now in
    let v : values_in body ≡ None = values_none body c.in_ok-rate.rate (sym c.peak_at.ensures ∙ c.in_ok-rate.was)
    (ap (λ (xs : List ℕ). behind_in (words_in xs)) (sym (rest_is 40 body)) ∙ sym c.fragments.ensures ∙ c.in_err-load.was) in
    cc

pub returns : goal.returns
returns c =
    let body = c.args.body.now in
    let b : c.is_broken.result ≡ is_broken (word_at 4 body) = c.is_broken.ensures ∙ ap is_broken c.word_at.ensures in
    (λ i. Some (record {
      broken = b i;
      hops = c.word_at-2.ensures i;
      rate = c.in_ok-rate.rate;
      latency = c.word_at-3.ensures i;
      mtu = c.word_at-4.ensures i;
      load = c.in_ok-load.load;
      others =
          c.in_ok-load.others;
    }))
    ∙ sym (values_some body c.in_ok-rate.rate c.in_ok-load.load c.in_ok-load.others (sym c.peak_at.ensures ∙ c.in_ok-rate.was)
    (ap (λ (xs : List ℕ). behind_in (words_in xs)) (sym (rest_is 40 body)) ∙ sym c.fragments.ensures ∙ c.in_ok-load.was))
