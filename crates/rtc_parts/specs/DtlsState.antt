-- What a peer keeps of its DTLS connection, and what the calls on it do.
use Rattle.std.specs.Prelude.{
  ℕ,
  ◌≡◌,
  ◌-◌,
  ◌^◌,
  ◌++◌,
  ◌∷◌,
  [],
  ◌&&◌,
  Bool,
  true,
  false,
  List,
  Option,
  Some,
  None,
  is_some,
  Result,
  Ok,
  Err,
  codes,
}
use Rattle.std.specs.declared.alloc.AllocError.{AllocError}
use Rattle.rtc_sdp_values.specs.declared.fingerprint.Fingerprint.{Fingerprint}
use Rattle.rtc_sdp_values.specs.Fingerprint.{certificate_fingerprint}
use Rattle.rtc_parts.specs.declared.dtls_error.DtlsError.{DtlsError}
use Rattle.rtc_parts.specs.declared.dtls_error.DtlsError.TheVariants.{WouldBlock}
use Rattle.rtc_parts.specs.declared.dtls_output.DtlsOutput.{DtlsOutput}
use Rattle.rtc_parts.specs.declared.dtls_output.DtlsOutput.TheVariants.{
  Connected,
  KeyingMaterial,
  PeerCert,
  ApplicationData,
  Timeout,
  CloseNotify,
}
use Rattle.rtc_parts.specs.DtlsDrawn.{DtlsDrawn, DrewConnected, DrewKeying, DrewCert, DrewData, DrewTimeout, DrewClose}
use Rattle.rtc_parts.specs.DtlsMeaning.{DtlsMeaning}
use Rattle.rtc_parts.specs.DtlsActs.{DtlsMoved}
use Rattle.rtc_parts.specs.DtlsWords.{takes}

pub record DtlsState (D : Type 0) : Type 0 where
  pub instance : D
  -- the role that was set first
  pub active : Option Bool
  pub local : Fingerprint
  pub remote : Option Fingerprint
  pub mtu : ℕ × ℕ
  -- the packets that were polled and not yet given out
  pub packets : List (List ℕ)

-- what an output shows of the caller's buffer
abbrev pub drawn_by : DtlsOutput → DtlsDrawn
drawn_by Connected = DrewConnected
drawn_by (KeyingMaterial key profile) = DrewKeying key.now profile
drawn_by (PeerCert cert) = DrewCert cert.now
drawn_by (ApplicationData bytes) = DrewData bytes.now
drawn_by (Timeout moment) = DrewTimeout moment
drawn_by CloseNotify = DrewClose

module _ {D : Type 0} (m : DtlsMeaning D) where
  -- a connection of an instance that was given the certificate, without a role
  pub record BeginsDtls (cert : List ℕ) (instance : D) (mtu : ℕ × ℕ) (q : DtlsState D) : Type 0 where
    pub certificate : m.certificate_set instance cert (Ok tt) q.instance
    pub fingerprint : certificate_fingerprint (codes "sha-256") cert ≡ Some q.local
    pub others : q ≡ record { instance = q.instance; active = None; local = q.local; remote = None; mtu = mtu; packets = [] }

  -- the first role is set and kept
  abbrev pub SetsRole : DtlsState D → Option Bool → Bool → DtlsState D → Type 0
  SetsRole p None active q = m.activated p.instance active q.instance × (q ≡ record p { instance = q.instance; active = Some active })
  SetsRole p (Some first) active q = q ≡ p

  -- a call that is passed on once a role is set, and is Ok before
  abbrev pub HandsOn : DtlsState D → Option Bool → (D → Result (Unit {0}) DtlsError → D → Type 0) → Result (Unit {0}) DtlsError
      → DtlsState D → Type 0
  HandsOn p None done r q = (r ≡ Ok tt) × (q ≡ p)
  HandsOn p (Some active) done r q = done p.instance r q.instance × (q ≡ record p { instance = q.instance })

  -- whether application data can go: a role is set and the handshake is finished
  abbrev pub can_send : DtlsState D → Bool
  can_send p = is_some p.active && m.finished p.instance

  -- application data is passed on if it can be sent, and has to wait if it cannot
  abbrev pub SendsData : DtlsState D → Bool → List ℕ → Result (Unit {0}) DtlsError → DtlsState D → Type 0
  SendsData p true bytes r q = m.sent p.instance bytes r q.instance × (q ≡ record p { instance = q.instance })
  SendsData p false bytes r q = (r ≡ Err WouldBlock) × (q ≡ p)

  -- all packets up to the first other output are queued, and that output is returned. If memory runs out for a packet, it is lost, and
  -- those before it are queued
  abbrev pub Drains : D → List (List ℕ) → Result DtlsOutput AllocError → D → List (List ℕ) → Type 0
  Drains i queue (Ok output) j rest = (packets : List (List ℕ))
      × ((k : D) × (DtlsMoved m i (takes packets) k × m.polled k (drawn_by output) j × (rest ≡ queue ++ packets)))
  Drains i queue (Err e) j rest = (packets : List (List ℕ)) × ((lost : List ℕ)
      × (DtlsMoved m i (takes (packets ++ lost ∷ [])) j × (rest ≡ queue ++ packets)))

  abbrev pub PollsOutput : DtlsState D → Option Bool → Result DtlsOutput AllocError → DtlsState D → Type 0
  PollsOutput p None r q = (r ≡ Ok (Timeout (2 ^ 64 - 1))) × (q ≡ p)
  PollsOutput p (Some active) r q = Drains p.instance p.packets r q.instance q.packets
      × (q ≡ record p { instance = q.instance; packets = q.packets })

  -- the oldest queued packet is given out
  abbrev pub GivesPacket : DtlsState D → List (List ℕ) → Option (List ℕ) → DtlsState D → Type 0
  GivesPacket p [] None q = q ≡ p
  GivesPacket p [] (Some packet) q = ⊥
  GivesPacket p (b ∷ packets) None q = ⊥
  GivesPacket p (b ∷ packets) (Some packet) q = (packet ≡ b) × (q ≡ record p { packets = packets })
