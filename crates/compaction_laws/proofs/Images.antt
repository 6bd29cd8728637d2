-- An image stands for one summary; the state to which it is opened has that, and is the compact state that has it.
use Rattle.std.proofs.Common.{◌≡◌, ℕ, List, [], ◌∷◌, ◌++◌, refl, ap, sym, subst, ◌∙◌}
use Rattle.std.specs.List.{All}
use Rattle.std.proofs.lemmas.List.{map-append}
use Rattle.std.proofs.lemmas.List.Elements.{All-nil, All-cons, All-head, All-tail, All-append}
use Rattle.flow_core.specs.Summaries.{Summary, summary, taken_up, all_taken_up}
use Rattle.flow_core.specs.declared.state.Core.{Core}
use Rattle.flow_disk.specs.Images.{Image}
use Rattle.flow_model.specs.declared.transactions.Numbered.{Numbered}
use Rattle.flow_session.specs.Histories.{StandsFor, payloads, under}
use Rattle.flow_session.specs.Refusing.{AdmitsOne, Admits, NoRecord, OneRecord, LeadsTo, IsOpenedTo}
use Rattle.flow_txn.specs.Records.{record_bytes}
use Rattle.machine.specs.States.{State}
use Rattle.machine_laws.specs.Viewed.{view}
use Rattle.reopening_laws.proofs.Limits.{keeps_within}
use Rattle.reopening_laws.proofs.Spelled.{one_record}
use Rattle.txn_log.specs.declared.header.Header.{Header}
use Rattle.compaction_laws.specs.Checkpoints.{summary_of}
use Rattle.compaction_laws.specs.Compact.{IsCompact}
use Rattle.compaction_laws.proofs.Opened.{opened_one}
use Rattle.compaction_laws.proofs.Resumed.{counts_header}
use Rattle.compaction_laws.proofs.Since.{Ranged, first_is, rest_is, nothing_is}

-- ---- records by their payloads

-- records in range with the same payloads are the same
pub records_one : (ns ms : List Numbered) → All Ranged ns → All Ranged ms → payloads ns ≡ payloads ms → ns ≡ ms
records_one [] [] ranged ranged' same = refl
records_one [] (m ∷ ms) ranged ranged' same =
    absurd (nothing_is (record_bytes m.number m.transaction) (payloads ms) same)
records_one (n ∷ ns) [] ranged ranged' same =
    absurd (nothing_is (record_bytes n.number n.transaction) (payloads ns) (sym same))
records_one (n ∷ ns) (m ∷ ms) ranged ranged' same =
    let bytes = record_bytes n.number n.transaction in
    let bytes' = record_bytes m.number m.transaction in
    let first = one_record n.number m.number n.transaction m.transaction (All-head Ranged n ns ranged)
    (All-head Ranged m ms ranged') (first_is bytes bytes' (payloads ns) (payloads ms) same) in
    let others = records_one ns ms (All-tail Ranged n ns ranged) (All-tail Ranged m ms ranged')
    (rest_is bytes bytes' (payloads ns) (payloads ms) same) in
    λ i. record { number = first.0 i; transaction = first.1 i } ∷ others i

-- records with these payloads give this summary
pub record Gives (h : Header) (bytes : List (List ℕ)) (s : Summary) : Type 0 where
  pub records : List Numbered
  pub spelled : payloads records ≡ bytes
  pub ranged : All Ranged records
  pub comes_to : all_taken_up h.transactions records (under h) ≡ s

-- payloads give one summary
pub gives_one : (h : Header) (bytes : List (List ℕ)) (s s' : Summary) → Gives h bytes s → Gives h bytes s' → s ≡ s'
gives_one h bytes s s' one other =
    let same = records_one one.records other.records one.ranged other.ranged (one.spelled ∙ sym other.spelled) in
    sym one.comes_to ∙ ap (λ (ns : List Numbered). all_taken_up h.transactions ns (under h)) same ∙ other.comes_to

-- those of an image that stands for a summary give it
stands_gives : (s : Summary) (image : Image) (stands : StandsFor s image)
    → Gives stands.header (payloads stands.records) s
stands_gives s image stands =
    record { records = stands.records; spelled = refl; ranged = stands.fits; comes_to = stands.comes_to }

-- and where the same slot has these payloads, they do
gives_here : (s : Summary) (image : Image) (h : Header) (bytes : List (List ℕ)) → (stands : StandsFor s image)
    → (h ≡ stands.header) × (bytes ≡ payloads stands.records) → Gives h bytes s
gives_here s image h bytes stands same =
    subst (λ (k : Header). Gives k bytes s) (sym same.0)
    (subst (λ (ps : List (List ℕ)). Gives stands.header ps s) (sym same.1) (stands_gives s image stands))

pub images_one : (s s' : Summary) (image : Image) → StandsFor s image → StandsFor s' image → s ≡ s'
images_one s s' image stands stands' =
    let same = counts_header stands.slot stands'.slot stands.header stands'.header (payloads stands.records)
    (payloads stands'.records) stands.end stands'.end (sym stands.counts ∙ stands'.counts) in
    gives_one stands.header (payloads stands.records) s s' (stands_gives s image stands)
    (gives_here s' image stands.header (payloads stands.records) stands' same)

-- ---- a state to which an image is opened

-- what an admitted record is taken up as, behind others
all_more : (kept : ℕ) (ns : List Numbered) (n : Numbered) (s : Summary)
    → all_taken_up kept (ns ++ n ∷ []) s ≡ taken_up kept n (all_taken_up kept ns s)
all_more kept [] n s = refl
all_more kept (m ∷ ns) n s = all_more kept ns n (taken_up kept m s)

-- records that are admitted from a state on give the summary of the state to which they lead
record Takes (first : Core) (bytes : List (List ℕ)) (c : Core) : Type 0 where
  pub records : List Numbered
  pub spelled : payloads records ≡ bytes
  pub ranged : All Ranged records
  pub kept : c.kept ≡ first.kept
  pub comes_to : all_taken_up first.kept records (summary first) ≡ summary c

one_taken : (first c c' : Core) (bytes : List (List ℕ)) (payload : List ℕ) → Takes first bytes c
    → AdmitsOne c payload c' → Takes first (bytes ++ payload ∷ []) c'
one_taken first c c' bytes payload takes one =
    let n : Numbered = record { number = one.number; transaction = one.transaction } in
    record {
      records = takes.records ++ n ∷ [];
      spelled = map-append (λ (m : Numbered). record_bytes m.number m.transaction) takes.records (n ∷ [])
          ∙ (λ i. takes.spelled i ++ one.spelled i ∷ []);
      ranged = All-append Ranged takes.records (n ∷ []) takes.ranged (All-cons Ranged n [] one.in_range
          (All-nil Ranged));
      kept = one.kept ∙ takes.kept;
      comes_to = all_more first.kept takes.records n (summary first)
          ∙ (λ i. taken_up (sym takes.kept i) n (takes.comes_to i)) ∙ sym one.adopted.taken;
    }

all_taken : (first c : Core) (bytes : List (List ℕ)) → Admits first bytes c → Takes first bytes c
all_taken first _ _ NoRecord =
    record { records = []; spelled = refl; ranged = All-nil Ranged; kept = refl; comes_to = refl }
all_taken first _ _ (OneRecord {payloads = bytes} {payload} {c'} {c''} admits one) =
    one_taken first c' c'' bytes payload (all_taken first c' bytes admits) one

pub leads_gives : (h : Header) (bytes : List (List ℕ)) (c : Core) → LeadsTo h bytes c → Gives h bytes (summary c)
leads_gives h bytes c (first, begins, admits) =
    let takes = all_taken first c bytes admits in
    record {
      records = takes.records;
      spelled = takes.spelled;
      ranged = takes.ranged;
      comes_to = (λ i. all_taken_up (sym begins.kept i) takes.records (sym begins.counts i)) ∙ takes.comes_to;
    }

-- a state to which an image is opened has each summary for which the image stands
pub opened_summary : (image : Image) (s : Summary) (c : Core) → StandsFor s image → IsOpenedTo image c → summary c ≡ s
opened_summary image s c stands opened =
    let same = counts_header opened.slot stands.slot opened.header stands.header opened.payloads
    (payloads stands.records) opened.end stands.end (sym opened.counts ∙ stands.counts) in
    gives_one opened.header opened.payloads (summary c) s (leads_gives opened.header opened.payloads c opened.leads)
    (gives_here s image opened.header opened.payloads stands same)

-- ---- where it is the summary of a compact state

pub reopened_one : (s : State) (image : Image) (c : Core) → IsCompact s → StandsFor (summary_of s) image
    → IsOpenedTo image c → view c ≡ s
reopened_one s image c compact stands opened =
    let within = keeps_within image opened.slot opened.header opened.payloads opened.end opened.counts in
    opened_one opened.header opened.payloads c s within.some_ opened.leads compact
    (opened_summary image (summary_of s) c stands opened)
