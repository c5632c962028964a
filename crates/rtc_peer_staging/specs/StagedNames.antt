-- A line that is staged, as it is drawn.
use Rattle.std.specs.Prelude.{ℕ, Bool, List, [], codes, option_map, string_bytes, String, Option}
use Rattle.std.specs.declared.alloc.Global.{Global}
use Rattle.rtc_parts.specs.Draws.{Draws}
use Rattle.rtc_change.specs.declared.add_media.AddMedia.{AddMedia as Media}
use Rattle.rtc_sdp_values.specs.declared.msid.Msid.{Msid}
use Rattle.rtc_peer_core.specs.Calls.{Wanted}
use Rattle.rtc_peer_core.specs.Names.{kept_name, name_of, after_name}
use Rattle.rtc_peer_core.specs.Sources.{next_pairs, pair_count}

-- a name that is given, as its bytes
abbrev pub given_name : Option (String Global) → Option (List ℕ)
given_name name = option_map (λ text. string_bytes text) name

module _ {N : Type 0} (draws : Draws N) where
  abbrev pub drawn_stream : Option (List ℕ) → N → List ℕ
  drawn_stream stream ids = name_of draws (codes "s") (kept_name stream) ids

  abbrev pub drawn_track : Option (List ℕ) → Option (List ℕ) → N → List ℕ
  drawn_track stream track ids = name_of draws (codes "t") (kept_name track) (after_name draws (kept_name stream) ids)

  abbrev pub after_names : Option (List ℕ) → Option (List ℕ) → N → N
  after_names stream track ids = after_name draws (kept_name track) (after_name draws (kept_name stream) ids)

  abbrev pub drawn_msid : Option (List ℕ) → Option (List ℕ) → N → Msid
  drawn_msid stream track ids = record { stream_id = drawn_stream stream ids; track_id = drawn_track stream track ids }

  -- the names of the stream and of the track, then the SSRCs
  abbrev pub drawn_media : (ℕ → Bool) → List ℕ → Wanted → N → Media
  drawn_media used mid wanted ids = record {
    mid = mid;
    cname = drawn_track wanted.stream wanted.track ids;
    msid = drawn_msid wanted.stream wanted.track ids;
    kind = wanted.kind;
    dir = wanted.dir;
    ssrcs = next_pairs draws used wanted.kind [] (pair_count wanted.simulcast) (after_names wanted.stream wanted.track ids);
    simulcast = wanted.simulcast;
  }
