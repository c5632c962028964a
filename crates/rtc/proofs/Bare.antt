-- A peer that was just built knows no address of its own.
use Rattle.std.proofs.Common.{◌≡◌, ◌∙◌, ℕ, Bool, [], refl, ap}
use Rattle.std.specs.declared.alloc.Global.{Global}
use Rattle.rtc_sdp_values.specs.declared.ice_creds.IceCreds.{IceCreds}
use Rattle.rtc_plain_ice.specs.Calls.{rto_set, lite_set, local_set}
use Rattle.rtc_plain_ice.specs.Contents.{IceContents, fresh_ice}
use Rattle.rtc_plain_dtls.specs.Contents.{DtlsContents, fresh_dtls}
use Rattle.rtc_assoc_state.specs.Contents.{Contents, fresh_contents}
use Rattle.rtc_plain_media.specs.MediaContents.{MediaContents, fresh_media}
use Rattle.rtc_config.specs.RtcConfig.{PeerConfig}
use Rattle.rtc_peer_core.specs.declared.peer.Peer.{Peer}
use Rattle.rtc_peer_core.specs.Built.{Builds, creds_or, session_drawn}
use Rattle.rtc.specs.PlainPeers.{memory_parts}

-- an agent that was given its three settings
abbrev set_agent : ℕ → Bool → IceCreds → IceContents
set_agent initial lite creds = local_set creds (lite_set lite (rto_set initial fresh_ice))

settings_add_none : (initial : ℕ) (lite : Bool) (creds : IceCreds) → (set_agent initial lite creds).settings.candidates ≡ []
unfolding local_set lite_set rto_set
settings_add_none initial lite creds = refl

pub built_bare : (alloc : Global) (config : PeerConfig) (first : ℕ) (p : Peer IceContents DtlsContents Contents MediaContents ℕ)
    → Builds memory_parts alloc config 0 fresh_ice fresh_dtls fresh_contents fresh_media first p → p.ice.settings.candidates ≡ []
built_bare alloc config first p h =
    let agent : p.ice ≡ set_agent config.ice.initial_stun_rto config.ice.lite (creds_or memory_parts.ids config.ice.credentials (session_drawn memory_parts.ids first)) =
    h.by_creds ∙ ap (local_set _) (h.by_lite ∙ ap (lite_set config.ice.lite) h.by_rto) in
    ap (λ (ice : IceContents). ice.settings.candidates) agent ∙ settings_add_none config.ice.initial_stun_rto config.ice.lite _
