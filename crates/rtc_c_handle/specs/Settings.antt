-- What C builds a peer from, and addresses as C has them.
use Rattle.std.specs.Prelude.{ℕ, ◌==◌, if◌then◌else◌, Bool, true, false, [], ◌∷◌, Option, Some, None, slice_index}
use Rattle.rtc_wire.specs.declared.addr.Addr.{Addr}
use Rattle.rtc_config.specs.RtcConfig.{PeerConfig, default_config, default_ice, default_sctp}
use Rattle.rtc_c_handle.specs.declared.address.Address.{Address}
use Rattle.rtc_c_handle.specs.declared.settings.Settings.{Settings}

-- the address of the engine
abbrev pub addr_of : Address → Addr
addr_of address = record { ip = address.a ∷ address.b ∷ address.c ∷ address.d ∷ []; port = address.port }

-- the address of C
abbrev pub address_of : Addr → Address
address_of addr = record {
  a = slice_index addr.ip 0;
  b = slice_index addr.ip 1;
  c = slice_index addr.ip 2;
  d = slice_index addr.ip 3;
  port = addr.port;
}

-- the role on glare of a number: none, polite, impolite
abbrev pub role_of_number : ℕ → Option (Option Bool)
role_of_number n = if n == 0 then Some None else if n == 1 then Some (Some true) else if n == 2 then Some (Some false) else None

-- the configuration of these settings, with a role
abbrev pub config_of_settings : Settings → Option Bool → PeerConfig
config_of_settings settings role = record default_config {
  ice = record default_ice { lite = settings.ice_lite };
  sctp = record default_sctp { snap_enabled = settings.snap };
  polite = role;
}
