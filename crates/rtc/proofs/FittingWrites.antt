-- A write that a channel takes leaves no more buffered than may be.
use Rattle.std.proofs.Common.{◌≡◌, ◌<◌, ◌≤◌, ℕ, Bool, true, false, nat_lt, if◌then◌else◌, List, length, Ok, Err, refl, arith}
use Rattle.std.proofs.lemmas.Bool.{ltb-false}
use Rattle.rtc_parts.specs.AssociationLaws.{AssociationLaws}
use Rattle.rtc_peer_core.specs.Meanings.{Meanings}
use Rattle.rtc_peer_transport.specs.ChannelCalls.{WritesChannel, WritesIf, bytes_available}
use Rattle.rtc_peer_transport.specs.declared.polled_peer.PolledPeer.{PolledPeer}
use Rattle.rtc_sctp.specs.Calls.{buffered_sum}
use Rattle.rtc_sctp_entries.specs.Entries.{Ascend}
use Rattle.rtc_sctp_laws.proofs.BufferedSums.{write_fits}

-- a message that is not longer than what is available, which is nothing before a start
fits_in : (started : Bool) (left count : ℕ) → nat_lt (if started then left else 0) count ≡ false → 0 < count → count ≤ left
fits_in true left count fits some = ltb-false left count fits
fits_in false left count fits some = absurd (let none : count ≤ 0 = ltb-false 0 count fits in omega (arith, none, some))

module _ {I D S M E X T W N : Type 0} (m : Meanings I D S M E X T W N) (laws : AssociationLaws m.association) where
  taken_fits : (full : Bool) (stream : ℕ) (binary : Bool) (bytes : List ℕ) (p q : PolledPeer I D S M N) → nat_lt (bytes_available m p) (length bytes) ≡ full
      → WritesIf m full stream binary bytes p (Ok true) q → Ascend p.core.sctp.entries → 0 < length bytes
      → buffered_sum m.association q.core.sctp.association q.core.sctp.entries ≤ q.core.sctp.max_buffered
  taken_fits true stream binary bytes p q room h ascend some = absurd (let is = h.0 in cc)
  taken_fits false stream binary bytes p q room (Ok count, wrote, is, rest) ascend some =
      write_fits m.association laws stream binary bytes p.core.sctp (Ok count) q.core.sctp ascend wrote some
      (fits_in (m.association.started p.core.sctp.association) _ (length bytes) room some)
  taken_fits false stream binary bytes p q room (Err error, wrote, is, rest) ascend some = absurd (cc)

  pub channel_write_fits : (p q : PolledPeer I D S M N) (stream : ℕ) (binary : Bool) (bytes : List ℕ) → Ascend p.core.sctp.entries → 0 < length bytes
      → WritesChannel m stream binary bytes p (Ok true) q
      → buffered_sum m.association q.core.sctp.association q.core.sctp.entries ≤ q.core.sctp.max_buffered
  channel_write_fits p q stream binary bytes ascend some h =
      taken_fits (nat_lt (bytes_available m p) (length bytes)) stream binary bytes p q refl h ascend some
