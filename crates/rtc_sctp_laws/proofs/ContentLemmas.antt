-- What messages carry, by lists that are joined, and what of it is answered.
use Rattle.std.proofs.Common.{◌≡◌, ℕ, ◌==◌, ◌&&◌, ◌||◌, not, cond, Bool, true, false, true≢false, List, [], ◌∷◌, ◌++◌, map, append_assoc, Result, Ok, Err, refl, sym, ap, ◌∙◌}
use Rattle.rtc_parts.specs.declared.ppi.Ppi.{Ppi}
use Rattle.rtc_parts.specs.declared.ppi.Ppi.TheVariants as ppi
use Rattle.rtc_parts.specs.Ppi.{ppi_of}
use Rattle.rtc_parts.specs.AssociationActs.{AssociationAct, Wrote, Read}
use Rattle.rtc_parts.specs.AssociationWords.{AssociationMessage, written, read}
use Rattle.rtc_sctp_entries.specs.declared.sctp_event.SctpEvent.{SctpEvent}
use Rattle.rtc_sctp_values.specs.declared.sctp_error.SctpError.{SctpError}
use Rattle.rtc_sctp.specs.Calls.{written_ppi, is_nil}
use Rattle.rtc_sctp_laws.specs.StreamActs.{written_message}
use Rattle.rtc_sctp_laws.specs.StreamMessages.{StreamMessage, IsNamedPpi, HaveNamedPpis, write_act, read_act, writes_of, reads_of, is_dcep, are_dcep, shown_message, shown_messages}
use Rattle.rtc_sctp_laws.specs.StreamUses.{is_of_generation, messages_of, are_of_generation}
use Rattle.rtc_sctp_laws.specs.Contents.{content_of, contents_of, contents_by, numbered_message, data_of}

pub contents-append : (xs ys : List StreamMessage) → contents_of (xs ++ ys) ≡ contents_of xs ++ contents_of ys
contents-append [] ys = refl
contents-append (x ∷ xs) ys = ap (λ l. content_of x.ppi x.bytes ++ l) (contents-append xs ys) ∙ sym (append_assoc (content_of x.ppi x.bytes) (contents_of xs) (contents_of ys))

-- messages that open channels carry nothing
dcep_content : (i : Ppi) (bytes : List ℕ) → is_dcep i ≡ true → content_of i bytes ≡ []
dcep_content ppi.Dcep bytes h = refl
dcep_content ppi.Text bytes h = absurd (true≢false (sym h))
dcep_content ppi.Binary bytes h = absurd (true≢false (sym h))
dcep_content ppi.EmptyText bytes h = absurd (true≢false (sym h))
dcep_content ppi.EmptyBinary bytes h = absurd (true≢false (sym h))
dcep_content (ppi.Other n) bytes h = absurd (true≢false (sym h))

pub dcep_contents : (s g : ℕ) (l : List StreamMessage) → are_dcep l ≡ true → contents_of (messages_of s g l) ≡ []
dcep_contents s g [] h = refl
dcep_contents s g (x ∷ l) h = by (is_dcep x.ppi) refl h (dcep_contents s g l)
  where
    kept : (c : Bool) → content_of x.ppi x.bytes ≡ [] → contents_of (messages_of s g l) ≡ [] → contents_of (cond c (x ∷ messages_of s g l) (messages_of s g l)) ≡ []
    kept true e f = ap (λ k. k ++ contents_of (messages_of s g l)) e ∙ f
    kept false e f = f

    by : (b : Bool) → is_dcep x.ppi ≡ b → (b && are_dcep l) ≡ true → (are_dcep l ≡ true → contents_of (messages_of s g l) ≡ []) → contents_of (messages_of s g (x ∷ l)) ≡ []
    by true e k rest = kept (is_of_generation s g x) (dcep_content x.ppi x.bytes e) (rest k)
    by false e k rest = absurd (true≢false (sym k))

-- what is answered of the first of some messages
data_none : (c : Bool) (l : List (Bool × List ℕ)) → l ≡ cond c [] [] ++ l
data_none true l = refl
data_none false l = refl

data_one : (c : Bool) (x : Bool × List ℕ) (l : List (Bool × List ℕ)) → cond c (x ∷ l) l ≡ cond c (x ∷ []) [] ++ l
data_one true x l = refl
data_one false x l = refl

data_first : (s id : ℕ) (i : Ppi) (bytes : List ℕ) (l : List SctpEvent) → data_of s (shown_message id i bytes ++ l) ≡ cond (id == s) (content_of i bytes) [] ++ data_of s l
data_first s id ppi.Dcep bytes l = data_none (id == s) (data_of s l)
data_first s id ppi.Text bytes l = data_one (id == s) (false, bytes) (data_of s l)
data_first s id ppi.Binary bytes l = data_one (id == s) (true, bytes) (data_of s l)
data_first s id ppi.EmptyText bytes l = data_one (id == s) (false, []) (data_of s l)
data_first s id ppi.EmptyBinary bytes l = data_one (id == s) (true, []) (data_of s l)
data_first s id (ppi.Other n) bytes l = data_none (id == s) (data_of s l)

-- of messages of a stream that are of one generation, what is answered is what they carry
pub shown_contents : (s g : ℕ) (l : List StreamMessage) → are_of_generation s g l ≡ true → data_of s (shown_messages l) ≡ contents_of (messages_of s g l)
shown_contents s g [] h = refl
shown_contents s g (x ∷ l) h = data_first s x.stream x.ppi x.bytes (shown_messages l) ∙ by (x.stream == s) (x.generation == g) h (shown_contents s g l)
  where
    by : (a b : Bool) → ((not a || b) && are_of_generation s g l) ≡ true → (are_of_generation s g l ≡ true → data_of s (shown_messages l) ≡ contents_of (messages_of s g l))
        → cond a (content_of x.ppi x.bytes) [] ++ data_of s (shown_messages l) ≡ contents_of (cond (a && b) (x ∷ messages_of s g l) (messages_of s g l))
    by true true k rest = ap (λ m. content_of x.ppi x.bytes ++ m) (rest k)
    by true false k rest = absurd (true≢false (sym k))
    by false b k rest = rest k

kept_message : (b : Bool) (x : StreamMessage) (w : List AssociationMessage) (l : List StreamMessage) → w ≡ map numbered_message l → cond b (numbered_message x ∷ w) w ≡ map numbered_message (cond b (x ∷ l) l)
kept_message true x w l e = ap (λ k. numbered_message x ∷ k) e
kept_message false x w l e = e

written_writes : (s g : ℕ) (acts : List AssociationAct) → written s g acts ≡ written s g (writes_of acts)
written_writes s g [] = refl
written_writes s g (Wrote t h i b ∷ acts) = ap (λ l. cond ((t == s) && (h == g)) (record { identifier = i; bytes = b } ∷ l) l) (written_writes s g acts)
written_writes s g (_ ∷ acts) = written_writes s g acts

written_map : (s g : ℕ) (l : List StreamMessage) → written s g (map write_act l) ≡ map numbered_message (messages_of s g l)
written_map s g [] = refl
written_map s g (x ∷ l) = kept_message ((x.stream == s) && (x.generation == g)) x (written s g (map write_act l)) (messages_of s g l) (written_map s g l)

pub written_are : (s g : ℕ) (acts : List AssociationAct) (wrote : List StreamMessage) → writes_of acts ≡ map write_act wrote → written s g acts ≡ map numbered_message (messages_of s g wrote)
written_are s g acts wrote h = written_writes s g acts ∙ ap (written s g) h ∙ written_map s g wrote

read_reads : (s g : ℕ) (acts : List AssociationAct) → read s g acts ≡ read s g (reads_of acts)
read_reads s g [] = refl
read_reads s g (Read t h i b ∷ acts) = ap (λ l. cond ((t == s) && (h == g)) (record { identifier = i; bytes = b } ∷ l) l) (read_reads s g acts)
read_reads s g (_ ∷ acts) = read_reads s g acts

read_map : (s g : ℕ) (l : List StreamMessage) → read s g (map read_act l) ≡ map numbered_message (messages_of s g l)
read_map s g [] = refl
read_map s g (x ∷ l) = kept_message ((x.stream == s) && (x.generation == g)) x (read s g (map read_act l)) (messages_of s g l) (read_map s g l)

pub read_are : (s g : ℕ) (acts : List AssociationAct) (heard : List StreamMessage) → reads_of acts ≡ map read_act heard → read s g acts ≡ map numbered_message (messages_of s g heard)
read_are s g acts heard h = read_reads s g acts ∙ ap (read s g) h ∙ read_map s g heard

-- ---- contents by the numbers of identifiers

pub contents_by-append : (xs ys : List AssociationMessage) → contents_by (xs ++ ys) ≡ contents_by xs ++ contents_by ys
contents_by-append [] ys = refl
contents_by-append (x ∷ xs) ys =
    ap (λ l. content_of (ppi_of x.identifier) x.bytes ++ l) (contents_by-append xs ys)
    ∙ sym (append_assoc (content_of (ppi_of x.identifier) x.bytes) (contents_by xs) (contents_by ys))

pub named_contents : (l : List StreamMessage) → HaveNamedPpis l → contents_by (map numbered_message l) ≡ contents_of l
named_contents [] h = refl
named_contents (x ∷ l) h =
    ap (λ (i : Ppi). content_of i x.bytes ++ contents_by (map numbered_message l)) h.0
    ∙ ap (λ k. content_of x.ppi x.bytes ++ k) (named_contents l h.1)

named_of : (s g : ℕ) (l : List StreamMessage) → HaveNamedPpis l → HaveNamedPpis (messages_of s g l)
named_of s g [] h = tt
named_of s g (x ∷ l) h = by (is_of_generation s g x) (named_of s g l h.1)
  where
    by : (b : Bool) → HaveNamedPpis (messages_of s g l) → HaveNamedPpis (cond b (x ∷ messages_of s g l) (messages_of s g l))
    by true rest = (h.0, rest)
    by false rest = rest

pub written_contents : (s g : ℕ) (acts : List AssociationAct) (wrote : List StreamMessage) → writes_of acts ≡ map write_act wrote → HaveNamedPpis wrote → contents_by (written s g acts) ≡ contents_of (messages_of s g wrote)
written_contents s g acts wrote h named = ap contents_by (written_are s g acts wrote h) ∙ named_contents (messages_of s g wrote) (named_of s g wrote named)

pub read_contents : (s g : ℕ) (acts : List AssociationAct) (heard : List StreamMessage) → reads_of acts ≡ map read_act heard → HaveNamedPpis heard → contents_by (read s g acts) ≡ contents_of (messages_of s g heard)
read_contents s g acts heard h named = ap contents_by (read_are s g acts heard h) ∙ named_contents (messages_of s g heard) (named_of s g heard named)

-- messages that open channels have their name, and so have those that writes of users make
dcep_is_named : (i : Ppi) → is_dcep i ≡ true → IsNamedPpi i
dcep_is_named ppi.Dcep h = refl
dcep_is_named ppi.Text h = refl
dcep_is_named ppi.Binary h = refl
dcep_is_named ppi.EmptyText h = refl
dcep_is_named ppi.EmptyBinary h = refl
dcep_is_named (ppi.Other n) h = absurd (true≢false (sym h))

pub dcep_are_named : (l : List StreamMessage) → are_dcep l ≡ true → HaveNamedPpis l
dcep_are_named [] h = tt
dcep_are_named (x ∷ l) h = by (is_dcep x.ppi) refl h (dcep_are_named l)
  where
    by : (b : Bool) → is_dcep x.ppi ≡ b → (b && are_dcep l) ≡ true → (are_dcep l ≡ true → HaveNamedPpis l) → HaveNamedPpis (x ∷ l)
    by true e k rest = (dcep_is_named x.ppi e, rest k)
    by false e k rest = absurd (true≢false (sym k))

ppi_named : (binary empty : Bool) → IsNamedPpi (written_ppi binary empty)
ppi_named true true = refl
ppi_named true false = refl
ppi_named false true = refl
ppi_named false false = refl

pub write_named : (stream generation : ℕ) (binary : Bool) (bytes : List ℕ) (r : Result ℕ SctpError) → HaveNamedPpis (written_message stream generation binary bytes r)
write_named stream generation binary bytes (Ok n) = (ppi_named binary (is_nil bytes), tt)
write_named stream generation binary bytes (Err e) = tt
