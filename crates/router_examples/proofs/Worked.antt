-- The worked rows hold by computing.
use Rattle.std.specs.Prelude.{refl}
use Rattle.std.specs.Int.Count.{count_leading_zeros}
use Rattle.router_rules.specs.AdspecPath.Composing.{pass_on, start}
use Rattle.router_rules.specs.AdspecPath.RateBelow.{rate_below}
use Rattle.router_examples.specs.PathRows.{PathGoesOn, AdspecsAreKept, AdspecsGoOn, PathsDropped, PathsEnd, LocalSenders, LocalSendersAreAdvertised, PathsMove, FaultsAreAnswered, PathErrorsGoOn}
use Rattle.router_examples.specs.ResvRows.{ResvGoesOn, RefusedRaiseKeepsTheOld, NoPathNoReservation, LeftOut, StylesMergeByTheirUnits, NextHopsMerge, TearsGoOn, GreedyIsBlockaded}
use Rattle.router_examples.specs.ResvRows.{BlockadedMerge, ErrorsGoOn, ConfirmationsComeBack, MarksWait, CallsAreRefused, FlagsAreByPaths}

pub path_goes_on : PathGoesOn
path_goes_on =
    record {
      taken = refl;
      on = refl;
      quiet = refl;
      again = refl;
    }

pub adspecs_are_kept : AdspecsAreKept
adspecs_are_kept =
    record {
      kept = refl;
      other = refl;
      none = refl;
      again = refl;
      dropped = refl;
      lives = refl;
      gone = refl;
    }

pub adspecs_go_on : AdspecsGoOn
unfolding pass_on rate_below count_leading_zeros
adspecs_go_on =
    record {
      on = refl;
      same = refl;
      hidden = refl;
      lower = refl;
      slower = refl;
      smaller = refl;
      broken = refl;
      unread = refl;
      silent = refl;
      narrow = refl;
      again = refl;
    }

pub paths_dropped : PathsDropped
paths_dropped =
    record {
      not_inward = refl;
      not_mine = refl;
      no_sender = refl;
      full = refl;
      none_sent = refl;
    }

pub paths_end : PathsEnd
paths_end =
    record {
      taken = refl;
      on = refl;
      gone = refl;
      no_countdown = refl;
      other_hop = refl;
      other_sender = refl;
      lives = refl;
      dies = refl;
      cleared = refl;
    }

pub local_senders : LocalSenders
local_senders =
    record {
      on = refl;
      same = refl;
      more = refl;
      off = refl;
      not_mine = refl;
      absent = refl;
    }

pub local_senders_are_advertised : LocalSendersAreAdvertised
unfolding start rate_below count_leading_zeros
local_senders_are_advertised =
    record {
      on = refl;
      again = refl;
      same = refl;
      stays = refl;
      anew = refl;
      due = refl;
      narrow = refl;
      absent = refl;
    }

pub paths_move : PathsMove
paths_move =
    record {
      away = refl;
      back = refl;
    }

pub faults_are_answered : FaultsAreAnswered
faults_are_answered =
    record {
      told = refl;
      answer = refl;
      service = refl;
      service_answer = refl;
      not_here = refl;
      no_code = refl;
    }

pub path_errors_go_on : PathErrorsGoOn
path_errors_go_on =
    record {
      on = refl;
      taken = refl;
      not_outward = refl;
      no_state = refl;
      ends = refl;
      ends_quietly = refl;
    }

pub resv_goes_on : ResvGoesOn
resv_goes_on =
    record {
      taken = refl;
      on = refl;
      holds = refl;
      again = refl;
      quiet = refl;
    }

pub refused_raise_keeps_the_old : RefusedRaiseKeepsTheOld
refused_raise_keeps_the_old =
    record {
      told = refl;
      answer = refl;
      kept = refl;
      holds = refl;
      mtu = refl;
      at_once = refl;
    }

pub no_path_no_reservation : NoPathNoReservation
no_path_no_reservation =
    record {
      none = refl;
      none_sent = refl;
      half = refl;
      half_sent = refl;
      half_book = refl;
      others = refl;
      all = refl;
    }

pub left_out : LeftOut
left_out =
    record {
      told = refl;
      quiet = refl;
      kept = refl;
      another = refl;
    }

pub styles_merge_by_their_units : StylesMergeByTheirUnits
styles_merge_by_their_units =
    record {
      conflict = refl;
      apart = refl;
      joined = refl;
    }

pub next_hops_merge : NextHopsMerge
next_hops_merge =
    record {
      taken = refl;
      two = refl;
      merged = refl;
      holds = refl;
    }

pub tears_go_on : TearsGoOn
tears_go_on =
    record {
      taken = refl;
      on = refl;
      gone = refl;
      no_state = refl;
      forgotten = refl;
      path_torn = refl;
      moved = refl;
    }

pub greedy_is_blockaded : GreedyIsBlockaded
greedy_is_blockaded =
    record {
      sends_small = refl;
      sends_greedy = refl;
      taken = refl;
      told = refl;
      told_so = refl;
      holds = refl;
      error_taken = refl;
      on = refl;
      reserved = refl;
      over = refl;
    }

pub blockaded_merge : BlockadedMerge
blockaded_merge =
    record {
      still = refl;
      under = refl;
      meet = refl;
      let_through = refl;
    }

pub errors_go_on : ErrorsGoOn
errors_go_on =
    record {
      names_all = refl;
      walled = refl;
      without_names = refl;
      no_wall = refl;
      empty_scope = refl;
      no_state = refl;
    }

pub confirmations_come_back : ConfirmationsComeBack
confirmations_come_back =
    record {
      asks = refl;
      once = refl;
      on = refl;
      granted = refl;
      known_already = refl;
      back = refl;
      arrived = refl;
      unwanted = refl;
    }

pub marks_wait : MarksWait
marks_wait =
    record {
      unused = refl;
      used = refl;
      cleared = refl;
      waits = refl;
    }

pub calls_are_refused : CallsAreRefused
calls_are_refused =
    record {
      style = refl;
      absent = refl;
      quit = refl;
      over = refl;
      room = refl;
    }

pub flags_are_by_paths : FlagsAreByPaths
flags_are_by_paths =
    record {
      merged = refl;
      at_t = refl;
      at_u = refl;
      smaller = refl;
      larger = refl;
      two = refl;
      at_s = refl;
    }
