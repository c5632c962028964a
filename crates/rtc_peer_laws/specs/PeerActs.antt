-- Acts of the parts of a peer: what they received, what was taken from them, and the moments that they were given.
use Rattle.std.specs.Prelude.{ℕ, ◌++◌, ◌∷◌, Bool, List, [], map, Option, Some, None}
use Rattle.rtc_wire.specs.declared.transmit.Transmit.{Transmit}
use Rattle.rtc_wire.specs.declared.datagram_recv.DatagramRecv.{DatagramRecv}
use Rattle.rtc_wire.specs.declared.datagram_recv.DatagramRecv.TheVariants as datagrams
use Rattle.rtc_parts.specs.Why.{Timed}
use Rattle.rtc_parts.specs.IceActs.{IceAct, IceMoved, TimedAt as IceTimed, Stirred as IceStirred}
use Rattle.rtc_parts.specs.IceWords.{ice_taken}
use Rattle.rtc_parts.specs.DtlsActs.{DtlsAct, DtlsMoved, Activated, TimedAt as DtlsTimed, Stirred as DtlsStirred}
use Rattle.rtc_parts.specs.DtlsState.{DtlsState}
use Rattle.rtc_parts.specs.DtlsWords.{dtls_taken}
use Rattle.rtc_parts.specs.AssociationActs.{AssociationAct, Moved}
use Rattle.rtc_parts.specs.MediaActs.{MediaAct, MediaGiven, MediaTaken, MediaStirred, MediaMoved}
use Rattle.rtc_peer_core.specs.Meanings.{Meanings}
use Rattle.rtc_peer_transport.specs.declared.input.Input.{Input}
use Rattle.rtc_peer_transport.specs.declared.input.Input.TheVariants.{Timeout, Receive as Datagram}
use Rattle.rtc_peer_transport.specs.declared.polled_peer.PolledPeer.{PolledPeer}

-- the acts of each part, in order
pub record PeerActs : Type 0 where
  pub ice : List IceAct
  pub dtls : List DtlsAct
  pub association : List AssociationAct
  pub media : List MediaAct

abbrev pub peer_acts : List IceAct → List DtlsAct → List AssociationAct → List MediaAct → PeerActs
peer_acts ice dtls association media = record { ice = ice; dtls = dtls; association = association; media = media }

-- acts with more acts behind them, part by part
abbrev pub acts_with : PeerActs → PeerActs → PeerActs
acts_with past more =
    peer_acts (past.ice ++ more.ice) (past.dtls ++ more.dtls) (past.association ++ more.association) (past.media ++ more.media)

-- the packets that the media part was given, and those that were taken from it
abbrev pub media_given : List MediaAct → List (List ℕ)
media_given [] = []
media_given (MediaGiven packet ∷ acts) = packet ∷ media_given acts
media_given (_ ∷ acts) = media_given acts

abbrev pub media_taken : List MediaAct → List (List ℕ)
media_taken [] = []
media_taken (MediaTaken datagram ∷ acts) = datagram ∷ media_taken acts
media_taken (_ ∷ acts) = media_taken acts

-- the moments that each part was given
abbrev pub ice_moments : List IceAct → List ℕ
ice_moments [] = []
ice_moments (IceStirred (IceTimed now answer) ∷ acts) = now ∷ ice_moments acts
ice_moments (_ ∷ acts) = ice_moments acts

abbrev pub dtls_moments : List DtlsAct → List ℕ
dtls_moments [] = []
dtls_moments (DtlsStirred (DtlsTimed now answer) ∷ acts) = now ∷ dtls_moments acts
dtls_moments (_ ∷ acts) = dtls_moments acts

abbrev pub media_moments : List MediaAct → List ℕ
media_moments [] = []
media_moments (MediaStirred (Timed now) ∷ acts) = now ∷ media_moments acts
media_moments (_ ∷ acts) = media_moments acts

-- the roles that a DTLS part was given, in order, and what becomes of a role by them: the first is kept
abbrev pub role_of_act : DtlsAct → List Bool
role_of_act (DtlsStirred (Activated active)) = active ∷ []
role_of_act _ = []

abbrev pub dtls_roles : List DtlsAct → List Bool
dtls_roles [] = []
dtls_roles (act ∷ acts) = role_of_act act ++ dtls_roles acts

abbrev pub first_role : Option Bool → Bool → Option Bool
first_role None active = Some active
first_role (Some role) active = Some role

abbrev pub roles_after : Option Bool → List Bool → Option Bool
roles_after role [] = role
roles_after role (active ∷ roles) = roles_after (first_role role active) roles

-- what waits to be sent of a DTLS connection, and its role
abbrev pub queue_and_role : {D : Type 0} → DtlsState D → List (List ℕ) × Option Bool
queue_and_role d = (d.packets, d.active)

-- what was taken to be sent in datagrams: from the agent, from the DTLS part and from the media part
abbrev pub contents_taken : PeerActs → List (List ℕ)
contents_taken acts =
    map (λ (transmit : Transmit). transmit.contents) (ice_taken acts.ice) ++ (dtls_taken acts.dtls ++ media_taken acts.media)

-- acts in order took the parts of one peer to those of another
pub record PeerMoved {I D S M E X T W N : Type 0} (m : Meanings I D S M E X T W N) (p : PolledPeer I D S M N) (acts : PeerActs)
    (q : PolledPeer I D S M N) : Type 0 where
  pub ice : IceMoved m.ice p.core.ice acts.ice q.core.ice
  pub dtls : DtlsMoved m.dtls p.core.dtls.instance acts.dtls q.core.dtls.instance
  pub association : Moved m.association p.core.sctp.association acts.association q.core.sctp.association
  pub media : MediaMoved m.media p.core.media acts.media q.core.media

-- what a peer received, by the part that it is for
pub record Came : Type 0 where
  pub ice : List (List ℕ)
  pub dtls : List (List ℕ)
  pub media : List (List ℕ)

abbrev pub nothing_came : Came
nothing_came = record { ice = []; dtls = []; media = [] }

abbrev pub came_of_datagram : DatagramRecv → Came
came_of_datagram (datagrams.Stun view) = record nothing_came { ice = view.bytes.now ∷ [] }
came_of_datagram (datagrams.Dtls bytes) = record nothing_came { dtls = bytes.now ∷ [] }
came_of_datagram (datagrams.Rtp bytes) = record nothing_came { media = bytes.now ∷ [] }
came_of_datagram (datagrams.Rtcp bytes) = record nothing_came { media = bytes.now ∷ [] }

abbrev pub came_by : Input → Came
came_by (Timeout now) = nothing_came
came_by (Datagram now datagram) = came_of_datagram datagram.contents

-- the moment of an input
abbrev pub moment_given : Input → ℕ
moment_given (Timeout now) = now
moment_given (Datagram now datagram) = now
