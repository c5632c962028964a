-- A step that hands over an answer is sound.
use Rattle.rtc_parts.specs.declared.dtls_error.DtlsError.TheVariants.{Fault, WouldBlock, Alloc as DtlsAlloc}
use Rattle.rtc_peer_core.specs.Stance.{held_by}
use Rattle.rtc_channels.specs.declared.channel_row.ChannelRow.{ChannelRow}
use Rattle.rtc_run_history.specs.Signalled.{Signalled, NotMade, Unreadable, Readable, foreign}
use Rattle.rtc_sdp_values.specs.declared.sdp_error.SdpError.TheVariants.{Parse}
use Rattle.rtc_run_history.specs.Views.{Stances, view_in, tells_init, init_told_by}
use Rattle.std.proofs.Common.{◌≡◌, ◌≢◌, ◌≤◌, ◌<◌, ◌+◌, ◌^◌, ◌==◌, ℕ, List, length, Bool, true, false, Option, Some, None, refl, sym, ◌∙◌, ap, arith}
use Rattle.std.specs.Prelude.{slice_get, is_some, option_map}
use Rattle.std.proofs.lemmas.Bool.{eq-eqb, ne_eqb}
use Rattle.rtc_sdp_values.specs.declared.line_row.LineRow.{LineRow}
use Rattle.rtc_change.specs.Held.{Held, Asked}
use Rattle.rtc_change.specs.PendingOffer.{PendingOffer, added_rows, staged_restart}
use Rattle.rtc_change.specs.Plans.{asked_by}
use Rattle.rtc_peer_core.specs.Stance.{Stance}
use Rattle.rtc_peer_core.specs.declared.rtc_error.RtcError.{RtcError}
use Rattle.rtc_peer_core.specs.declared.rtc_error.RtcError.TheVariants.{Net, Media as MediaFailed}
use Rattle.rtc_peer_core.specs.declared.rtc_error.RtcError.TheVariants.{RemoteSdp, Sdp as SdpRefused, Dtls, Sctp, ChangesOutOfOrder, BadChannel, Alloc as PeerAlloc, Glare}
use Rattle.rtc_peer_core.specs.Calls.{raised}
use Rattle.rtc_run_history.specs.declared.side.Side.{Side}
use Rattle.rtc_run_history.specs.declared.step.Step.TheVariants.{AcceptAnswer, ForeignAnswer}
use Rattle.rtc_run_history.specs.declared.outcome.Outcome.{Outcome}
use Rattle.rtc_run_history.specs.declared.outcome.Outcome.TheVariants.{Negotiated, Answered, Finished, Done, Wrote, Polled, Refused, NoSuch, Alloc}
use Rattle.rtc_run_history.specs.declared.table.Table.{Table}
use Rattle.rtc_run_history.specs.Past.{Entry, MadeSdp, before, channels_shown, remote_sdp, holds_token, is_right, restarts_by, sdps}
use Rattle.rtc_run_history.specs.Sound.{RepliesToAnswer, IsSound, asked_in}
use Rattle.rtc_run_history.specs.declared.kept.Kept.{Kept}
use Rattle.rtc_run_history.specs.PairState.{made_sdp, token_for}
use Rattle.rtc_run_laws.proofs.Tells.{TokenTells, raised-small}
use Rattle.rtc_run_laws.proofs.OfferSteps.{shown_by}
use Rattle.rtc_run_laws.proofs.StanceSteps.{StanceStepAcceptsAnswer}

-- the same of equal tokens and views
answer_by : {E : Type 0} → (held held' right right' : Bool) (asked asked' : Asked) (sdp : Signalled) (view view' : Held) (outcome : Outcome E) (after : List LineRow)
    → held' ≡ held → right' ≡ right → asked' ≡ asked → view' ≡ view
    → RepliesToAnswer held right asked sdp view outcome after → RepliesToAnswer held' right' asked' sdp view' outcome after
answer_by held held' right right' asked asked' sdp view view' outcome after same_held same_right same_asked same_view takes =
    rw (same_held, same_right, same_asked, same_view) takes

no_text : (E : Type 0) (right : Bool) (asked : Asked) (view : Held) (after : List LineRow) → after ≡ view.lines → RepliesToAnswer {E = E} true right asked NotMade view NoSuch after
no_text E true asked view after e = e
no_text E false asked view after e = e

unread_text : (E : Type 0) (right : Bool) (asked : Asked) (line : ℕ) (error : RtcError) (view : Held) (after : List LineRow) → error ≡ SdpRefused (Parse line) → after ≡ view.lines
    → RepliesToAnswer {E = E} true right asked (Unreadable line) view (Refused error) after
unread_text E true asked line error view after is e = (is, e)
unread_text E false asked line error view after is e = (is, e)

pub now_right : (counter size id : ℕ) (right : Bool) → counter ≡ raised id → (counter == id + 1) ≡ right → id + 1 ≤ counter → counter ≤ size → size < 2 ^ 32 → right ≡ true
now_right counter size id right e is older low small =
    let next : raised id ≡ id + 1 = raised-small id size (omega arith) small in sym is ∙ eq-eqb counter (id + 1) (e ∙ next)

pub not_right : (counter size id : ℕ) (right : Bool) → counter ≢ raised id → (counter == id + 1) ≡ right → id + 1 ≤ counter → counter ≤ size → size < 2 ^ 32 → right ≡ false
not_right counter size id right differs is older low small =
    let next : raised id ≡ id + 1 = raised-small id size (omega arith) small in sym is ∙ ne_eqb counter (id + 1) (λ e. differs (e ∙ sym next))

-- what the token asks is what the past says of its offer
asked_told : {E : Type 0} → (past : List (Entry E)) (at : Side) (counter t : ℕ) (found : Option Kept) (token : PendingOffer) (rows : List LineRow)
    → TokenTells past at counter t found → slice_get (sdps past) t ≡ option_map made_sdp found → token_for at found ≡ Some token → before at past ≡ rows
    → asked_in at t past ≡ asked_by rows token
asked_told past at counter t found token rows told there is same =
    let asked : List LineRow → Bool → Bool → Asked = λ rows restarts inits. record { added = rows; restarts = restarts; says_init = inits } in
    rw same (
    ap (λ rows. asked rows (restarts_by t past) (init_told_by t past)) (sym (told.changes token is (length rows)))
    ∙ ap (λ restarts. asked (added_rows (length rows) token.changes) restarts (init_told_by t past)) (sym (told.restarts token is))
    ∙ ap (asked (added_rows (length rows) token.changes) (is_some (staged_restart token.changes))) (ap tells_init there ∙ sym (told.inits token is))
    )

-- the reply to an answer, and the table that is shown
abbrev pub AnswerReplied : {E : Type 0} → (held right : Bool) → Asked → Signalled → Held → List ChannelRow → Outcome E → Option Table → Type 0
AnswerReplied held right asked sdp view shown outcome None = outcome ≡ Alloc
AnswerReplied held right asked sdp view shown outcome (Some table) = RepliesToAnswer held right asked sdp view outcome table.lines × (table.channels ≡ shown)

-- the reply to an answer that is delivered
answer_reply : {E : Type 0} → (past : List (Entry E)) (at : Side) (t size : ℕ) (view : Held) (found : Option Kept) (token : Option PendingOffer) (sdp : Signalled) (old new : Stance) (kept kept' : List Kept) (outcome : Outcome E) (table : Option Table)
    → token_for at found ≡ token → TokenTells past at old.counter t found → slice_get (sdps past) t ≡ option_map made_sdp found → old.counter ≤ size → size < 2 ^ 32 → view ≡ held_by old → before at past ≡ old.lines
    → channels_shown at past ≡ old.rows → StanceStepAcceptsAnswer t token sdp old kept outcome table new kept' → AnswerReplied (holds_token at t past) (is_right at t past) (asked_in at t past) sdp view (channels_shown at past) outcome table
answer_reply {E} past at t size view found None NotMade old new kept kept' Alloc None is told_it there low small same_view rows shown h = refl
answer_reply {E} past at t size view found None (Unreadable line) old new kept kept' Alloc None is told_it there low small same_view rows shown h = refl
answer_reply {E} past at t size view found None (Readable sdp) old new kept kept' Alloc None is told_it there low small same_view rows shown h = refl
answer_reply {E} past at t size view found (Some token) NotMade old new kept kept' Alloc None is told_it there low small same_view rows shown h = refl
answer_reply {E} past at t size view found (Some token) (Unreadable line) old new kept kept' Alloc None is told_it there low small same_view rows shown h = refl
answer_reply {E} past at t size view found (Some token) (Readable sdp) old new kept kept' Alloc None is told_it there low small same_view rows shown h = refl
answer_reply {E} past at t size view found None NotMade old new kept kept' NoSuch (Some table) is told_it there low small same_view rows shown h = (
  answer_by false _ (is_right at t past) _ (asked_in at t past) _ NotMade (held_by old) view NoSuch table.lines (sym told_it.held ∙ ap is_some is) refl refl same_view h.1.lines,
  shown_by (channels_shown at past) old old table shown refl h.1,
)
answer_reply {E} past at t size view found None (Unreadable line) old new kept kept' NoSuch (Some table) is told_it there low small same_view rows shown h = (
  answer_by false _ (is_right at t past) _ (asked_in at t past) _ (Unreadable line) (held_by old) view NoSuch table.lines (sym told_it.held ∙ ap is_some is) refl refl same_view h.1.lines,
  shown_by (channels_shown at past) old old table shown refl h.1,
)
answer_reply {E} past at t size view found None (Readable sdp) old new kept kept' NoSuch (Some table) is told_it there low small same_view rows shown h = (
  answer_by false _ (is_right at t past) _ (asked_in at t past) _ (Readable sdp) (held_by old) view NoSuch table.lines (sym told_it.held ∙ ap is_some is) refl refl same_view h.1.lines,
  shown_by (channels_shown at past) old old table shown refl h.1,
)
answer_reply {E} past at t size view found (Some token) NotMade old new kept kept' NoSuch (Some table) is told_it there low small same_view rows shown h = (
  answer_by true _ (is_right at t past) _ (asked_in at t past) _ NotMade (held_by old) view NoSuch table.lines (sym told_it.held ∙ ap is_some is) refl refl same_view
      (no_text E (is_right at t past) (asked_in at t past) (held_by old) table.lines h.1.lines),
  shown_by (channels_shown at past) old old table shown refl h.1,
)
answer_reply {E} past at t size view found (Some token) (Unreadable line) old new kept kept' (Refused error) (Some table) is told_it there low small same_view rows shown h = (
  answer_by true _ (is_right at t past) _ (asked_in at t past) _ (Unreadable line) (held_by old) view (Refused error) table.lines (sym told_it.held ∙ ap is_some is) refl refl same_view
      (unread_text E (is_right at t past) (asked_in at t past) line error (held_by old) table.lines h.0 h.2.lines),
  shown_by (channels_shown at past) old old table shown refl h.2,
)
answer_reply {E} past at t size view found (Some token) (Readable sdp) old new kept kept' Finished (Some table) is told_it there low small same_view rows shown h = (
  answer_by true _ true _ (asked_by old.lines token) _ (Readable sdp) (held_by old) view Finished table.lines (sym told_it.held ∙ ap is_some is)
      (now_right old.counter size token.id (is_right at t past) h.0.right (told_it.right token is) (told_it.older token is) low small)
      (asked_told past at old.counter t found token old.lines told_it there is rows) same_view (h.0.passes, h.2.lines ∙ ap (λ p. p.lines) h.0.rest),
  shown_by (channels_shown at past) old new table shown (ap (λ p. p.rows) h.0.rest) h.2,
)
answer_reply {E} past at t size view found (Some token) (Readable sdp) old new kept kept' (Refused (RemoteSdp why)) (Some table) is told_it there low small same_view rows shown h = (
  answer_by true _ true _ (asked_by old.lines token) _ (Readable sdp) (held_by old) view (Refused (RemoteSdp why)) table.lines (sym told_it.held ∙ ap is_some is)
      (now_right old.counter size token.id (is_right at t past) h.0.0 (told_it.right token is) (told_it.older token is) low small)
      (asked_told past at old.counter t found token old.lines told_it there is rows) same_view (h.0.1.0, h.2.lines ∙ ap (λ p. p.lines) h.0.1.1),
  shown_by (channels_shown at past) old new table shown (ap (λ p. p.rows) h.0.1.1) h.2,
)
answer_reply {E} past at t size view found (Some token) (Readable sdp) old new kept kept' (Refused (SdpRefused error)) (Some table) is told_it there low small same_view rows shown h = (
  answer_by true _ true _ (asked_by old.lines token) _ (Readable sdp) (held_by old) view (Refused (SdpRefused error)) table.lines (sym told_it.held ∙ ap is_some is)
      (now_right old.counter size token.id (is_right at t past) h.0.0 (told_it.right token is) (told_it.older token is) low small)
      (asked_told past at old.counter t found token old.lines told_it there is rows) same_view (h.0.1.0, h.2.lines ∙ ap (λ p. p.lines) h.0.1.1),
  shown_by (channels_shown at past) old new table shown (ap (λ p. p.rows) h.0.1.1) h.2,
)
answer_reply {E} past at t size view found (Some token) (Readable sdp) old new kept kept' (Refused (Dtls Fault)) (Some table) is told_it there low small same_view rows shown h = (
  answer_by true _ true _ (asked_by old.lines token) _ (Readable sdp) (held_by old) view (Refused (Dtls Fault)) table.lines (sym told_it.held ∙ ap is_some is)
      (now_right old.counter size token.id (is_right at t past) h.0.0 (told_it.right token is) (told_it.older token is) low small)
      (asked_told past at old.counter t found token old.lines told_it there is rows) same_view (h.0.1, h.2.lines ∙ ap (λ p. p.lines) h.0.2.rest),
  shown_by (channels_shown at past) old new table shown (ap (λ p. p.rows) h.0.2.rest) h.2,
)
answer_reply {E} past at t size view found (Some token) (Readable sdp) old new kept kept' (Refused (Dtls WouldBlock)) (Some table) is told_it there low small same_view rows shown h = absurd h.0
answer_reply {E} past at t size view found (Some token) (Readable sdp) old new kept kept' (Refused (Dtls DtlsAlloc)) (Some table) is told_it there low small same_view rows shown h = absurd h.0
answer_reply {E} past at t size view found (Some token) (Readable sdp) old new kept kept' (Refused (Sctp error)) (Some table) is told_it there low small same_view rows shown h = (
  answer_by true _ true _ (asked_by old.lines token) _ (Readable sdp) (held_by old) view (Refused (Sctp error)) table.lines (sym told_it.held ∙ ap is_some is)
      (now_right old.counter size token.id (is_right at t past) h.0.0 (told_it.right token is) (told_it.older token is) low small)
      (asked_told past at old.counter t found token old.lines told_it there is rows) same_view (h.0.1, h.0.2, h.2.lines ∙ ap (λ p. p.lines) h.0.3.rest),
  shown_by (channels_shown at past) old new table shown (ap (λ p. p.rows) h.0.3.rest) h.2,
)
answer_reply {E} past at t size view found (Some token) (Readable sdp) old new kept kept' (Refused PeerAlloc) (Some table) is told_it there low small same_view rows shown h = (
  answer_by true _ true _ (asked_in at t past) _ (Readable sdp) (held_by old) view (Refused PeerAlloc) table.lines (sym told_it.held ∙ ap is_some is)
      (now_right old.counter size token.id (is_right at t past) h.0.0 (told_it.right token is) (told_it.older token is) low small)
      refl same_view (h.2.lines ∙ ap (λ p. p.lines) h.0.1.rest),
  shown_by (channels_shown at past) old new table shown (ap (λ p. p.rows) h.0.1.rest) h.2,
)
answer_reply {E} past at t size view found (Some token) (Readable sdp) old new kept kept' (Refused ChangesOutOfOrder) (Some table) is told_it there low small same_view rows shown h = (
  answer_by true _ false _ (asked_in at t past) _ (Readable sdp) (held_by old) view (Refused ChangesOutOfOrder) table.lines (sym told_it.held ∙ ap is_some is)
      (not_right old.counter size token.id (is_right at t past) h.0.0 (told_it.right token is) (told_it.older token is) low small)
      refl same_view (h.2.lines ∙ ap (λ p. p.lines) h.0.1),
  shown_by (channels_shown at past) old new table shown (ap (λ p. p.rows) h.0.1) h.2,
)
answer_reply {E} past at t size view found (Some token) (Readable sdp) old new kept kept' (Refused (Net cause)) (Some table) is told_it there low small same_view rows shown h = absurd h.0
answer_reply {E} past at t size view found (Some token) (Readable sdp) old new kept kept' (Refused (MediaFailed cause)) (Some table) is told_it there low small same_view rows shown h = absurd h.0
answer_reply {E} past at t size view found (Some token) (Readable sdp) old new kept kept' (Refused BadChannel) (Some table) is told_it there low small same_view rows shown h = absurd h.0
answer_reply {E} past at t size view found (Some token) (Readable sdp) old new kept kept' (Refused Glare) (Some table) is told_it there low small same_view rows shown h = absurd h.0
answer_reply {E} past at t size view found token sdp old new kept kept' outcome table is told_it there low small same_view rows shown h = absurd h

-- such a reply is sound
answer_is_sound : {E : Type 0} → (fresh between : Stances) (past : List (Entry E)) (at : Side) (t : ℕ) (a : ℕ) (outcome : Outcome E) (table : Option Table) (made : List MadeSdp)
    → AnswerReplied (holds_token at t past) (is_right at t past) (asked_in at t past) (remote_sdp false at a past) (view_in fresh at past (held_by (between at))) (channels_shown at past) outcome table
    → IsSound fresh past between (AcceptAnswer at t a) outcome table made
answer_is_sound fresh between past at t a outcome None made h = rw h tt
answer_is_sound fresh between past at t a (Negotiated answers what) (Some table) made h = h
answer_is_sound fresh between past at t a (Answered n) (Some table) made h = h
answer_is_sound fresh between past at t a Finished (Some table) made h = h
answer_is_sound fresh between past at t a Done (Some table) made h = h
answer_is_sound fresh between past at t a (Wrote taken) (Some table) made h = h
answer_is_sound fresh between past at t a (Polled outputs end) (Some table) made h = h
answer_is_sound fresh between past at t a (Refused error) (Some table) made h = h
answer_is_sound fresh between past at t a NoSuch (Some table) made h = h
answer_is_sound fresh between past at t a Alloc (Some table) made h = h

foreign_is_sound : {E : Type 0} → (fresh between : Stances) (past : List (Entry E)) (at : Side) (t : ℕ) (text : List ℕ) (outcome : Outcome E) (table : Option Table) (made : List MadeSdp)
    → AnswerReplied (holds_token at t past) (is_right at t past) (asked_in at t past) (foreign text) (view_in fresh at past (held_by (between at))) (channels_shown at past) outcome table
    → IsSound fresh past between (ForeignAnswer at t text) outcome table made
foreign_is_sound fresh between past at t text outcome None made h = rw h tt
foreign_is_sound fresh between past at t text (Negotiated answers what) (Some table) made h = h
foreign_is_sound fresh between past at t text (Answered n) (Some table) made h = h
foreign_is_sound fresh between past at t text Finished (Some table) made h = h
foreign_is_sound fresh between past at t text Done (Some table) made h = h
foreign_is_sound fresh between past at t text (Wrote taken) (Some table) made h = h
foreign_is_sound fresh between past at t text (Polled outputs end) (Some table) made h = h
foreign_is_sound fresh between past at t text (Refused error) (Some table) made h = h
foreign_is_sound fresh between past at t text NoSuch (Some table) made h = h
foreign_is_sound fresh between past at t text Alloc (Some table) made h = h

pub answer_sound : {E : Type 0} → (fresh between : Stances) (past : List (Entry E)) (at : Side) (t a size : ℕ) (found : Option Kept) (token : Option PendingOffer) (sdp : Signalled) (old new : Stance) (kept kept' : List Kept) (outcome : Outcome E) (table : Option Table) (made : List MadeSdp)
    → token_for at found ≡ token → TokenTells past at old.counter t found → slice_get (sdps past) t ≡ option_map made_sdp found → old.counter ≤ size → size < 2 ^ 32 → remote_sdp false at a past ≡ sdp → view_in fresh at past (held_by (between at)) ≡ held_by old → before at past ≡ old.lines
    → channels_shown at past ≡ old.rows → StanceStepAcceptsAnswer t token sdp old kept outcome table new kept' → IsSound fresh past between (AcceptAnswer at t a) outcome table made
answer_sound fresh between past at t a size found token sdp old new kept kept' outcome table made is told_it there low small said view rows shown h =
    answer_is_sound fresh between past at t a outcome table made
    (rw said (answer_reply past at t size _ found token sdp old new kept kept' outcome table is told_it there low small view rows shown h))

pub foreign_answer_sound : {E : Type 0} → (fresh between : Stances) (past : List (Entry E)) (at : Side) (t : ℕ) (text : List ℕ) (size : ℕ) (found : Option Kept) (token : Option PendingOffer) (old new : Stance) (kept kept' : List Kept) (outcome : Outcome E) (table : Option Table) (made : List MadeSdp)
    → token_for at found ≡ token → TokenTells past at old.counter t found → slice_get (sdps past) t ≡ option_map made_sdp found → old.counter ≤ size → size < 2 ^ 32 → view_in fresh at past (held_by (between at)) ≡ held_by old → before at past ≡ old.lines
    → channels_shown at past ≡ old.rows → StanceStepAcceptsAnswer t token (foreign text) old kept outcome table new kept' → IsSound fresh past between (ForeignAnswer at t text) outcome table made
foreign_answer_sound fresh between past at t text size found token old new kept kept' outcome table made is told_it there low small view rows shown h =
    foreign_is_sound fresh between past at t text outcome table made
    (answer_reply past at t size _ found token (foreign text) old new kept kept' outcome table is told_it there low small view rows shown h)
