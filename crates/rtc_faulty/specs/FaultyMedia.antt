-- A media part that fails at listed calls.
use Rattle.std.specs.Prelude.{◌+◌, true, false}
use Rattle.rtc_parts.specs.declared.media_error.MediaError.TheVariants.{Rtp}
use Rattle.rtc_parts.specs.MediaMeaning.{MediaMeaning}
use Rattle.rtc_faulty.specs.declared.faulty.Faulty.{Faulty}
use Rattle.rtc_faulty.specs.Numbering.{is_failing, faults_ahead}
use Rattle.rtc_faulty.specs.FaultyCalls.{IsFreshOver, Reaches, CanFail}

-- a timeout has a number. A poll of the events whose making may fail has one only if it fails: so the later faults in a row are held, as
-- events are
abbrev pub faulty_media : {M E X T W : Type 0} → MediaMeaning M E X T W → MediaMeaning (Faulty M) E X T W
faulty_media m = record {
  fresh = λ p. IsFreshOver m.fresh p;
  configured = λ p settings q. Reaches (λ i j. m.configured i settings j) p q;
  prepared = λ p updates r q. Reaches (λ i j. m.prepared i updates r j) p q;
  committed = λ p q. Reaches (λ i j. m.committed i j) p q;
  line_removed = λ p mid q. Reaches (λ i j. m.line_removed i mid j) p q;
  keyed = λ p key profile active r q. Reaches (λ i j. m.keyed i key profile active r j) p q;
  rtp_given = λ p now packet r q. Reaches (λ i j. m.rtp_given i now packet r j) p q;
  rtcp_given = λ p now packet r q. Reaches (λ i j. m.rtcp_given i now packet r j) p q;
  timed = λ p now r q. CanFail (is_failing p.numbers) Rtp (λ _. true) (λ i a j. m.timed i now a j) p r q;
  told = λ p r q. Reaches (λ i j. m.told i r j) p q;
  told_fallible = λ p now r q. CanFail (is_failing p.numbers) Rtp (λ _. false) (λ i a j. m.told_fallible i now a j) p r q;
  gave = λ p now r q. Reaches (λ i j. m.gave i now r j) p q;
  cleared = λ p q. Reaches (λ i j. m.cleared i j) p q;
  rtp_shut = λ p r q. Reaches (λ i j. m.rtp_shut i r j) p q;
  stats_visited = λ p now s r t q. Reaches (λ i j. m.stats_visited i now s r t j) p q;
  red_set = λ p mid on b q. Reaches (λ i j. m.red_set i mid on b j) p q;
  twcc_enabled = λ p q. Reaches (λ i j. m.twcc_enabled i j) p q;
  app_fed = λ p sender media payload r q. Reaches (λ i j. m.app_fed i sender media payload r j) p q;
  pli_fed = λ p sender media r q. Reaches (λ i j. m.pli_fed i sender media r j) p q;
  rx_removed = λ p ssrc b q. Reaches (λ i j. m.rx_removed i ssrc b j) p q;
  tx_removed = λ p ssrc b q. Reaches (λ i j. m.tx_removed i ssrc b j) p q;
  writer_lent = λ p mid lent left q. Reaches (λ i j. m.writer_lent i mid lent left j) p q;
  rx_expected = λ p ssrc rtx mid rid lent left q. Reaches (λ i j. m.rx_expected i ssrc rtx mid rid lent left j) p q;
  tx_declared = λ p ssrc rtx mid rid lent left q. Reaches (λ i j. m.tx_declared i ssrc rtx mid rid lent left j) p q;
  rx_lent = λ p ssrc lent left q. Reaches (λ i j. m.rx_lent i ssrc lent left j) p q;
  tx_lent = λ p ssrc lent left q. Reaches (λ i j. m.tx_lent i ssrc lent left j) p q;
  rx_named_lent = λ p mid rid lent left q. Reaches (λ i j. m.rx_named_lent i mid rid lent left j) p q;
  tx_named_lent = λ p mid rid lent left q. Reaches (λ i j. m.tx_named_lent i mid rid lent left j) p q;
  tx_reset = λ p mid rid ssrc rtx lent left q. Reaches (λ i j. m.tx_reset i mid rid ssrc rtx lent left j) p q;
  line = λ p mid. m.line p.inner mid;
  used = λ p ssrc. m.used p.inner ssrc;
  connected = λ p. m.connected p.inner;
  rtp_closed = λ p. m.rtp_closed p.inner;
  wake = λ p. m.wake p.inner;
  has_writer = λ p mid. m.has_writer p.inner mid;
  declines_rx = λ p ssrc rtx mid rid. m.declines_rx p.inner ssrc rtx mid rid;
  declines_tx = λ p ssrc rtx mid rid. m.declines_tx p.inner ssrc rtx mid rid;
  has_rx = λ p ssrc. m.has_rx p.inner ssrc;
  has_tx = λ p ssrc. m.has_tx p.inner ssrc;
  has_rx_named = λ p mid rid. m.has_rx_named p.inner mid rid;
  has_tx_named = λ p mid rid. m.has_tx_named p.inner mid rid;
  resets_tx = λ p mid rid ssrc rtx. m.resets_tx p.inner mid rid ssrc rtx;
  has_streams = λ p mid. m.has_streams p.inner mid;
  pending = λ p. m.pending p.inner;
  held_events = λ p. m.held_events p.inner + faults_ahead p.numbers;
  held_datagrams = λ p. m.held_datagrams p.inner;
  faults = λ p. m.faults p.inner + p.numbers.faults;
}
