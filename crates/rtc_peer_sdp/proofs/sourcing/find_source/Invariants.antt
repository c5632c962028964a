use Rattle.std.proofs.Common.{◌≡◌, ◌-◌, ◌^◌, ◌||◌}
use Rattle.rtc_peer_core.specs.Sources.{has_source, is_number, unused, drawn_source}
use Rattle.rtc_peer_sdp.proofs.sourcing.find_source.Given as goal

abbrev pub invariant-loop : goal.invariant-loop
invariant-loop g l =
    unused (λ m. has_source g.M.MediaSession.media l.media m || is_number m l.earlier) l.first (2 ^ 32 - l.counter) l.n
    ≡ drawn_source (has_source g.M.MediaSession.media l.media) l.earlier l.first
