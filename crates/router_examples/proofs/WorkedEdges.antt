-- The worked rows at the edges of the rules hold by computing.
use Rattle.std.specs.Prelude.{refl}
use Rattle.router_examples.specs.EdgeRows.{SomeNamesLeave, SendersAreBlockaded, ErrorsTogether, TooManyNames, WantsConflict, HandlesGoBack, RefusalsArrive}

pub some_names_leave : SomeNamesLeave
some_names_leave =
    record {
      sends = refl;
      left = refl;
      on = refl;
      torn = refl;
      torn_on = refl;
    }

pub senders_are_blockaded : SendersAreBlockaded
senders_are_blockaded =
    record {
      sends = refl;
      walled = refl;
      smaller = refl;
      joined = refl;
      any = refl;
    }

pub errors_together : ErrorsTogether
errors_together =
    record {
      told = refl;
      both = refl;
      by_rate = refl;
      in_order = refl;
    }

pub too_many_names : TooManyNames
too_many_names =
    record {
      told = refl;
      quiet = refl;
      none_kept = refl;
      taken = refl;
      on = refl;
    }

pub wants_conflict : WantsConflict
wants_conflict =
    record {
      told = refl;
      answer = refl;
      same_style = refl;
    }

pub handles_go_back : HandlesGoBack
handles_go_back =
    record {
      path_on = refl;
      resv_on = refl;
      tear_on = refl;
      error = refl;
    }

pub refusals_arrive : RefusalsArrive
refusals_arrive =
    record {
      taken = refl;
      quiet = refl;
      walled = refl;
      goes = refl;
    }
