-- The lines behind that of a step: how each begins, and their text.
use Rattle.std.proofs.Common.{◌≡◌, ◌++◌, ◌∷◌, ℕ, Bool, List, [], map, Option, Some, None, refl, sym, ◌∙◌, ap, append-nil, append_assoc}
use Rattle.std.specs.List.{flat_map}
use Rattle.std.proofs.lemmas.Grind.{flat_map-append}
use Rattle.rtc_channels.specs.declared.channel_row.ChannelRow.{ChannelRow}
use Rattle.rtc_peer_core.specs.declared.rtc_error.RtcError.{RtcError}
use Rattle.rtc_peer_core.specs.declared.rtc_error.RtcError.TheVariants.{RemoteSdp, Sdp, Net, Dtls, Sctp, Media as MediaFailed, ChangesOutOfOrder, BadChannel, Alloc as PeerAlloc, Glare}
use Rattle.rtc_plain_media.specs.declared.plain_media_event.PlainMediaEvent.{PlainMediaEvent}
use Rattle.rtc_sdp_values.specs.declared.line_row.LineRow.{LineRow}
use Rattle.rtc_sdp_values.specs.declared.line_row.LineRow.TheVariants.{Media, App}
use Rattle.rtc_run_history.specs.declared.outcome.Outcome.{Outcome}
use Rattle.rtc_run_history.specs.declared.outcome.Outcome.TheVariants.{Negotiated, Answered, Finished, Done, Wrote, Polled, Refused, NoSuch, Alloc}
use Rattle.rtc_run_history.specs.declared.poll_end.PollEnd.{PollEnd}
use Rattle.rtc_run_history.specs.declared.poll_end.PollEnd.TheVariants.{Ended, Refused as EndRefused, NoRoom}
use Rattle.rtc_run_history.specs.declared.reply.Reply.{Reply}
use Rattle.rtc_run_history.specs.declared.shown.Shown.{Shown}
use Rattle.rtc_run_history.specs.declared.shown.Shown.TheVariants.{Timeout, Packet, Event}
use Rattle.rtc_run_history.specs.declared.table.Table.{Table}
use Rattle.rtc_run_history.specs.Past.{table_rows}
use Rattle.rtc_script_reports.specs.Outputs.{end_line, error_line, output_line, polled_lines}
use Rattle.rtc_script_reports.specs.Report.{table_lines}
use Rattle.rtc_script_reports.specs.Rows.{channel_report_line, row_report_line}
use Rattle.rtc_script_reports.proofs.Cuts.{text_of}
use Rattle.rtc_script_reports.proofs.LineTexts.{AllBegin, first_of}
use Rattle.rtc_script_reports.proofs.OutputTexts.{end_lines}

-- ---- the lines of a reply

-- the outputs of polls, and the lines of what ended them
abbrev pub outputs_of : Outcome PlainMediaEvent → List (Shown PlainMediaEvent)
outputs_of (Polled outputs end) = outputs
outputs_of outcome = []

abbrev pub outcome_ends : Outcome PlainMediaEvent → List (List ℕ)
outcome_ends (Polled outputs end) = end_lines end
outcome_ends outcome = []

-- the channels of a table, if there is one
abbrev pub table_channels : Option Table → List ChannelRow
table_channels None = []
table_channels (Some table) = table.channels

-- the lines behind that of the step
abbrev pub lines_behind : Reply PlainMediaEvent → List (List ℕ)
lines_behind reply =
    map output_line (outputs_of reply.outcome)
    ++ (outcome_ends reply.outcome
    ++ (map row_report_line (table_rows reply.table) ++ map channel_report_line (table_channels reply.table)))

-- ---- how lines begin

output_begins : (p : ℕ → Bool) (b : Bool) (shown : Shown PlainMediaEvent) → p 111 ≡ b → p (first_of (output_line shown)) ≡ b
output_begins p b (Timeout moment reason) h = h
output_begins p b (Packet number len) h = h
output_begins p b (Event event) h = h

outputs_begin : (p : ℕ → Bool) (b : Bool) (outputs : List (Shown PlainMediaEvent)) → p 111 ≡ b → AllBegin p b (map output_line outputs)
outputs_begin p b [] h = tt
outputs_begin p b (shown ∷ outputs) h = (output_begins p b shown h, outputs_begin p b outputs h)

error_begins : (p : ℕ → Bool) (b : Bool) (error : RtcError) → p 101 ≡ b → p 110 ≡ b → p (first_of (error_line error)) ≡ b
error_begins p b (RemoteSdp why) e n = e
error_begins p b (Sdp error) e n = e
error_begins p b (Net error) e n = e
error_begins p b (Dtls error) e n = e
error_begins p b (Sctp error) e n = e
error_begins p b (MediaFailed error) e n = e
error_begins p b ChangesOutOfOrder e n = e
error_begins p b BadChannel e n = e
error_begins p b PeerAlloc e n = n
error_begins p b Glare e n = e

end_begins : (p : ℕ → Bool) (b : Bool) (end : PollEnd) → p 101 ≡ b → p 110 ≡ b → AllBegin p b (end_lines end)
end_begins p b Ended e n = tt
end_begins p b (EndRefused error) e n = (error_begins p b error e n, tt)
end_begins p b NoRoom e n = (n, tt)

ends_begin : (p : ℕ → Bool) (b : Bool) (outcome : Outcome PlainMediaEvent) → p 101 ≡ b → p 110 ≡ b → AllBegin p b (outcome_ends outcome)
ends_begin p b (Polled outputs end) e n = end_begins p b end e n
ends_begin p b outcome e n = tt

row_begins : (p : ℕ → Bool) (b : Bool) (row : LineRow) → p 108 ≡ b → p (first_of (row_report_line row)) ≡ b
row_begins p b (Media place mid kind dir stopped created) h = h
row_begins p b (App place mid) h = h

rows_begin : (p : ℕ → Bool) (b : Bool) (rows : List LineRow) → p 108 ≡ b → AllBegin p b (map row_report_line rows)
rows_begin p b [] h = tt
rows_begin p b (row ∷ rows) h = (row_begins p b row h, rows_begin p b rows h)

channels_begin : (p : ℕ → Bool) (b : Bool) (rows : List ChannelRow) → p 99 ≡ b → AllBegin p b (map channel_report_line rows)
channels_begin p b [] h = tt
channels_begin p b (row ∷ rows) h = (h, channels_begin p b rows h)

all_append : (p : ℕ → Bool) (b : Bool) (xs ys : List (List ℕ)) → AllBegin p b xs → AllBegin p b ys → AllBegin p b (xs ++ ys)
all_append p b [] ys hx hy = hy
all_append p b (x ∷ xs) ys hx hy = (hx.0, all_append p b xs ys hx.1 hy)

-- the lines of rows and channels, behind what ended polls
pub table_begins : (p : ℕ → Bool) (b : Bool) (table : Option Table) → p 108 ≡ b → p 99 ≡ b → AllBegin p b (map row_report_line (table_rows table) ++ map channel_report_line (table_channels table))
table_begins p b table row channel =
    all_append p b (map row_report_line (table_rows table)) (map channel_report_line (table_channels table)) (rows_begin p b (table_rows table) row) (channels_begin p b (table_channels table) channel)

pub rest_begins : (p : ℕ → Bool) (b : Bool) (reply : Reply PlainMediaEvent) → p 101 ≡ b → p 110 ≡ b → p 108 ≡ b → p 99 ≡ b
    → AllBegin p b (outcome_ends reply.outcome ++ (map row_report_line (table_rows reply.table) ++ map channel_report_line (table_channels reply.table)))
rest_begins p b reply error none row channel =
    all_append p b (outcome_ends reply.outcome) (map row_report_line (table_rows reply.table) ++ map channel_report_line (table_channels reply.table)) (ends_begin p b reply.outcome error none)
    (table_begins p b reply.table row channel)

pub behind_begins : (p : ℕ → Bool) (b : Bool) (reply : Reply PlainMediaEvent) → p 111 ≡ b → p 101 ≡ b → p 110 ≡ b → p 108 ≡ b → p 99 ≡ b → AllBegin p b (lines_behind reply)
behind_begins p b reply output error none row channel =
    all_append p b (map output_line (outputs_of reply.outcome)) (outcome_ends reply.outcome ++ (map row_report_line (table_rows reply.table) ++ map channel_report_line (table_channels reply.table)))
    (outputs_begin p b (outputs_of reply.outcome) output) (rest_begins p b reply error none row channel)

pub outputs_all : (p : ℕ → Bool) (b : Bool) (outcome : Outcome PlainMediaEvent) → p 111 ≡ b → AllBegin p b (map output_line (outputs_of outcome))
outputs_all p b outcome h = outputs_begin p b (outputs_of outcome) h

pub ends_all : (p : ℕ → Bool) (b : Bool) (outcome : Outcome PlainMediaEvent) → p 101 ≡ b → p 110 ≡ b → AllBegin p b (outcome_ends outcome)
ends_all p b outcome e n = ends_begin p b outcome e n

pub rows_all : (p : ℕ → Bool) (b : Bool) (table : Option Table) → p 108 ≡ b → AllBegin p b (map row_report_line (table_rows table))
rows_all p b table h = rows_begin p b (table_rows table) h

pub channels_all : (p : ℕ → Bool) (b : Bool) (table : Option Table) → p 99 ≡ b → AllBegin p b (map channel_report_line (table_channels table))
channels_all p b table h = channels_begin p b (table_channels table) h

-- ---- their text

text_map : {A : Type 0} → (f : A → List ℕ) (xs : List A) → text_of (map f xs) ≡ flat_map f xs
text_map f [] = refl
text_map f (x ∷ xs) = ap (λ (t : List ℕ). f x ++ t) (text_map f xs)

text_append : (xs ys : List (List ℕ)) → text_of (xs ++ ys) ≡ text_of xs ++ text_of ys
text_append xs ys = flat_map-append (λ (line : List ℕ). line) xs ys

end_text : (end : PollEnd) → text_of (end_lines end) ≡ end_line end
end_text Ended = refl
end_text (EndRefused error) = append-nil (error_line error)
end_text NoRoom = append-nil (end_line NoRoom)

polled_text : (outcome : Outcome PlainMediaEvent) → text_of (map output_line (outputs_of outcome)) ++ text_of (outcome_ends outcome) ≡ polled_lines outcome
polled_text (Polled outputs end) =
    ap (λ (t : List ℕ). t ++ text_of (end_lines end)) (text_map output_line outputs) ∙ ap (λ (t : List ℕ). flat_map output_line outputs ++ t) (end_text end)
polled_text (Negotiated answers made) = refl
polled_text (Answered k) = refl
polled_text Finished = refl
polled_text Done = refl
polled_text (Wrote taken) = refl
polled_text (Refused error) = refl
polled_text NoSuch = refl
polled_text Alloc = refl

table_text : (table : Option Table) → text_of (map row_report_line (table_rows table) ++ map channel_report_line (table_channels table)) ≡ table_lines table
table_text None = refl
table_text (Some table) =
    text_append (map row_report_line table.lines) (map channel_report_line table.channels)
    ∙ ap (λ (t : List ℕ). t ++ text_of (map channel_report_line table.channels)) (text_map row_report_line table.lines)
    ∙ ap (λ (t : List ℕ). flat_map row_report_line table.lines ++ t) (text_map channel_report_line table.channels)

pub behind_text : (reply : Reply PlainMediaEvent) → text_of (lines_behind reply) ≡ polled_lines reply.outcome ++ table_lines reply.table
behind_text reply =
    let outs : List (List ℕ) = map output_line (outputs_of reply.outcome) in
    let rest : List (List ℕ) = map row_report_line (table_rows reply.table) ++ map channel_report_line (table_channels reply.table) in
    text_append outs (outcome_ends reply.outcome ++ rest) ∙ ap (λ (t : List ℕ). text_of outs ++ t) (text_append (outcome_ends reply.outcome) rest)
    ∙ sym (append_assoc (text_of outs) (text_of (outcome_ends reply.outcome)) (text_of rest)) ∙ ap (λ (t : List ℕ). t ++ text_of rest) (polled_text reply.outcome)
    ∙ ap (λ (t : List ℕ). polled_lines reply.outcome ++ t) (table_text reply.table)
