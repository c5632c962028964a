use Rattle.std.proofs.Common.{◌≡◌, ◌++◌, ◌-◌}
use Rattle.std.specs.List.{flat_map}
use Rattle.rtc_parts.specs.Draws.{Later}
use Rattle.rtc_peer_core.specs.Sources.{has_source, pair_numbers, next_pairs, after_pairs}
use Rattle.rtc_peer_sdp.proofs.sourcing.draw_pairs.Given as goal

abbrev pub invariant-loop : goal.invariant-loop
invariant-loop g l =
    record {
      pairs : l.pairs.items ++ next_pairs g.N.Ids.ids (has_source g.M.MediaSession.media l.media) l.kind l.earlier (l.count - l.counter) l.ids
          ≡ next_pairs g.N.Ids.ids (has_source g.M.MediaSession.media l.media) l.kind l.fn.earlier l.count l.fn.ids;
      earlier : l.earlier ≡ l.fn.earlier ++ flat_map pair_numbers l.pairs.items;
      after : after_pairs g.N.Ids.ids (has_source g.M.MediaSession.media l.media) l.kind (l.count - l.counter) l.ids
          ≡ after_pairs g.N.Ids.ids (has_source g.M.MediaSession.media l.media) l.kind l.count l.fn.ids;
      later : Later g.N.Ids.ids l.fn.ids l.ids;
    }
