-- Offers of which lines are rejected before they are accepted (RFC 3264, section 6).
use Rattle.std.specs.Prelude.{ℕ, Bool, true, false, ◌&&◌, ◌||◌, not, if◌then◌else◌}
use Rattle.std.specs.Prelude.{List, [], ◌∷◌, map, filter, Option, Some, None, option_map}
use Rattle.std.specs.List.{list_any}
use Rattle.std.specs.Str.{bytes_eq}
use Rattle.rtc_sdp_codecs.specs.LineFormats.{matched_rows}
use Rattle.rtc_sdp_values.specs.Mids.{is_bundled}
use Rattle.rtc_sdp_values.specs.declared.line_kind.LineKind.{LineKind}
use Rattle.rtc_sdp_values.specs.declared.line_kind.LineKind.TheVariants.{Audio, Video, Application, Unknown}
use Rattle.rtc_sdp_values.specs.declared.media_kind.MediaKind.TheVariants as media
use Rattle.rtc_sdp_values.specs.declared.media_line.MediaLine.{MediaLine}
use Rattle.rtc_sdp_values.specs.declared.payload_row.PayloadRow.{PayloadRow}
use Rattle.rtc_sdp_values.specs.declared.sdp.Sdp.{Sdp}
use Rattle.rtc_lines.specs.declared.sdp_offer.SdpOffer.{SdpOffer}

-- ---- live lines

-- a line takes part in the session if it has a port, or if a group names it (RFC 8843, section 6)
abbrev pub is_live_line : (groups : List (List (List ℕ))) → MediaLine → Bool
is_live_line groups line = not line.disabled || is_bundled groups line.mid

abbrev pub has_live : (groups : List (List (List ℕ))) → List MediaLine → Bool
has_live groups lines = list_any (is_live_line groups) lines

-- ---- lines without a codec

abbrev pub is_none : List PayloadRow → Bool
is_none [] = true
is_none (row ∷ rows) = false

-- whether no row of a configuration is among those that the other side sent for a medium
abbrev pub shares_none : LineKind → (rows remote : List PayloadRow) → Bool
shares_none Audio rows remote = is_none (matched_rows media.Audio rows remote)
shares_none Video rows remote = is_none (matched_rows media.Video rows remote)
shares_none Application rows remote = false
shares_none Unknown rows remote = false

abbrev pub lacks_codec : List PayloadRow → (groups : List (List (List ℕ))) → MediaLine → Bool
lacks_codec rows groups line = is_live_line groups line && shares_none line.kind rows line.payloads

-- the mids of the live media lines that have no codec of a configuration
abbrev pub mids_without_codec : List PayloadRow → (groups : List (List (List ℕ))) → List MediaLine → List (List ℕ)
mids_without_codec rows groups lines = map (λ line. line.mid) (filter (lacks_codec rows groups) lines)

-- ---- lines that are rejected

abbrev pub names_mid : (mids : List (List ℕ)) → List ℕ → Bool
names_mid mids mid = list_any (λ other. bytes_eq other mid) mids

-- port 0, without a stream and SSRCs
abbrev pub line_at_port_0 : MediaLine → MediaLine
line_at_port_0 line = record line { disabled = true; msid = None; cname = None; ssrcs = [] }

abbrev pub line_rejecting : (mids : List (List ℕ)) → MediaLine → MediaLine
line_rejecting mids line = if names_mid mids line.mid then line_at_port_0 line else line

-- a rejected line is in no group
abbrev pub group_rejecting : (mids : List (List ℕ)) → List (List ℕ) → List (List ℕ)
group_rejecting mids group = filter (λ mid. not (names_mid mids mid)) group

abbrev pub sdp_rejecting : (mids : List (List ℕ)) → Sdp → Sdp
sdp_rejecting mids sdp =
    record sdp { groups = map (group_rejecting mids) sdp.groups; lines = map (line_rejecting mids) sdp.lines }

-- what is left of an offer, if a live line is left
abbrev pub offer_rejecting : (mids : List (List ℕ)) → Sdp → Option Sdp
offer_rejecting mids sdp =
    if has_live (map (group_rejecting mids) sdp.groups) (map (line_rejecting mids) sdp.lines)
    then Some (sdp_rejecting mids sdp) else None

abbrev pub sdp_of_rejecting : Option SdpOffer → Option Sdp
sdp_of_rejecting offer = option_map (λ o. o.0) offer
