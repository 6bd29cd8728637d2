-- How following goes from stage to stage, and how it ends.
use Rattle.std.proofs.Common.{◌≡◌, ◌∙◌, ◌⊎◌, inl, inr, ⊎_elim, ℕ, ◌+◌, ◌≤◌, Bool, true, false, List, [], length, Option, Result, Ok, Err, IfErr, ap, sym, subst, refl, arith}
use Rattle.std.specs.Io.KnownBytes.{Keeps, prepend_known}
use Rattle.std.specs.Result.{IsErrAnd}
use Rattle.std.proofs.KnownBytes.{Keeps-refl, prepend_known-nil}
use Rattle.flow_core.specs.Summaries.{Summary, summary}
use Rattle.flow_core.specs.declared.state.Core.{Core}
use Rattle.flow_disk.specs.Images.{Image}
use Rattle.flow_disk.specs.Moments.{LeavesOnly}
use Rattle.flow_disk.proofs.Runs.{joined, weaker}
use Rattle.flow_session.specs.Histories.{StandsFor}
use Rattle.txn_log.specs.Records.{IsPayload}
use Rattle.standby.specs.declared.following.Followed.{Followed}
use Rattle.standby.specs.declared.stops.FollowStop.{FollowStop}
use Rattle.standby.specs.declared.stops.FollowStop.TheVariants.{Store, Frame, Cut, Other, Gap, NotAllowed, ReadFault, TooLong, NoMemory}
use Rattle.standby.specs.declared.frames.Front.{Front}
use Rattle.standby.specs.Endings.{FollowEnd}
use Rattle.standby.specs.Followed.{StandsBehind}
use Rattle.standby.specs.Frames.{StopsFrame, EndsThere, most_frame}
use Rattle.standby.specs.Fronts.{FrontJudged}
use Rattle.standby.specs.Readers.{Reader, Gives, HoldsBlock, ahead, most_held}
use Rattle.standby.specs.Reading.{Reads}
use Rattle.standby.specs.Stages.{TakesPayload, StopsPayload, Stage, stage, Reaches, Here, Further, Goes, IsEnded, StopsAt, KeepsAt, StopsKept, FollowsFrames, FollowsHeld, ReadsFront, StopsBefore, PassesFront, IsDone, Follows, FollowsSource}
use Rattle.standby.specs.Streams.{front_bytes, frame_bytes, end_bytes}
use Rattle.standby.specs.Waiting.{IsKeptBy, StandsUpTo, TakesUpTo}
use Rattle.standby.proofs.Ahead.{gives_kept, gives_none, hands_block}
use Rattle.standby.proofs.Framed.{frame_long}
use Rattle.standby.proofs.Waiting.{reaches_on}

-- ---- the end of the frames

-- the frame at a stage isn't read
pub unread_frame : (IsKept : Core → Type 0) (MayKeep : Core → Core → Type 0) (s : Stage) (after : Option (List ℕ)) (stop : FollowStop) → StopsFrame s.place s.core.number s.left after stop → IsKept s.core → StopsKept IsKept MayKeep s after stop
unread_frame IsKept MayKeep s after (Store stop) stops kept = absurd stops
unread_frame IsKept MayKeep s after (Frame at) stops kept = (inl stops, kept)
unread_frame IsKept MayKeep s after (Cut number) stops kept = (stops, kept)
unread_frame IsKept MayKeep s after Other stops kept = absurd stops
unread_frame IsKept MayKeep s after (Gap number) stops kept = absurd stops
unread_frame IsKept MayKeep s after (NotAllowed number) stops kept = absurd stops
unread_frame IsKept MayKeep s after ReadFault stops kept = (inl stops, kept)
unread_frame IsKept MayKeep s after TooLong stops kept = (stops, kept)
unread_frame IsKept MayKeep s after NoMemory stops kept = (inl stops, kept)

-- the payload at a stage isn't taken
pub untaken_frame : (s : Stage) (after : Option (List ℕ)) (payload : List ℕ) (stop : FollowStop) → IsPayload payload → Gives s.place s.left after (frame_bytes payload) → StopsPayload s.place (s.number + 1) payload s.core stop → StopsAt s after stop
untaken_frame s after payload (Store stop) allowed frame stops = record { payload = payload; allowed = allowed; frame = frame; stops = stops }
untaken_frame s after payload (Frame at) allowed frame stops = inr (inl (record { payload = payload; allowed = allowed; frame = frame; stops = stops }))
untaken_frame s after payload (Cut number) allowed frame stops = absurd stops.2
untaken_frame s after payload Other allowed frame stops = absurd stops.2
untaken_frame s after payload (Gap number) allowed frame stops = absurd stops.2
untaken_frame s after payload (NotAllowed number) allowed frame stops = record { payload = payload; allowed = allowed; frame = frame; stops = stops }
untaken_frame s after payload ReadFault allowed frame stops = absurd stops.2
untaken_frame s after payload TooLong allowed frame stops = absurd stops.2
untaken_frame s after payload NoMemory allowed frame stops = inr (record {
  payload = payload;
  allowed = allowed;
  frame = frame;
  stops = stops;
})

-- the payload that was read at a stage isn't taken
pub untaken_at : (s : Stage) (at : ℕ) (after : Option (List ℕ)) (given payload : List ℕ) (stop : FollowStop) → at ≡ s.place → given ≡ payload → IsPayload payload → Gives s.place s.left after (frame_bytes payload) → StopsPayload at (s.number + 1) given s.core stop → StopsAt s after stop
untaken_at s at after given payload stop here same allowed frame stops =
    untaken_frame s after payload stop allowed frame
    (subst (λ (n : ℕ). StopsPayload n (s.number + 1) payload s.core stop) here (subst (λ (xs : List ℕ). StopsPayload at (s.number + 1) xs s.core stop) same stops))

-- a stage is reached by one frame more
pub one_further : (first s s' : Stage) (given payload : List ℕ) → Reaches first s → given ≡ payload → IsPayload payload → Gives s.place s.left s'.left (frame_bytes payload) → s'.place ≡ s.place + length (frame_bytes payload) → s'.number ≡ s.number + 1 → TakesPayload (s.number + 1) given s.core s.taken s'.core s'.taken → Reaches first s'
one_further first s s' given payload reached same allowed frame place number takes =
    Further reached (record {
      payload = payload;
      allowed = allowed;
      frame = frame;
      place = place;
      number = number;
      takes = subst (λ (n : ℕ). TakesPayload n payload s.core s.taken s'.core s'.taken) (sym number) (subst (λ (xs : List ℕ). TakesPayload (s.number + 1) xs s.core s.taken s'.core s'.taken) same takes);
    })

-- the frame at a stage is taken, and those behind it that are held
goes_up_to : (s : Stage) (reader : Reader) (left : Option (List ℕ)) (given payload : List ℕ) (IsSo : Core → Type 0)
    → given ≡ payload → IsPayload payload → Gives s.place s.left (ahead reader left) (frame_bytes payload)
    → reader.place ≡ s.place + length (frame_bytes payload)
    → (on : TakesUpTo s.number given reader s.core s.taken IsSo) → Reaches s
    (stage on.core on.count on.number on.next left)
goes_up_to s reader left given payload IsSo same allowed frame place on =
    let mid : Stage = stage on.takes.mid on.takes.count (s.number + 1) reader left in
    let last : Stage = stage on.core on.count on.number on.next left in
    reaches_on s mid last (one_further s s mid given payload Here same allowed frame place refl on.takes.first)
    (on.takes.behind left)

-- an image stands for the state at a stage that is reached, or for one up to which frames are taken from there on
pub stands_further : (first s : Stage) (reader : Reader) (left : Option (List ℕ)) (given payload : List ℕ)
    (image : Image) → Reaches first s → given ≡ payload → IsPayload payload
    → Gives s.place s.left (ahead reader left) (frame_bytes payload)
    → reader.place ≡ s.place + length (frame_bytes payload)
    → StandsUpTo s.number given reader s.core s.taken image → StandsBehind first image
stands_further first s reader left given payload image reached same allowed frame place (inl stands) = record {
  last = s;
  reached = reached;
  ended = stands;
}
stands_further first s reader left given payload image reached same allowed frame place (inr on) =
    let last : Stage = stage on.core on.count on.number on.next left in
    record {
      last = last;
      reached = reaches_on first s last reached
          (goes_up_to s reader left given payload (λ core. StandsFor (summary core) image) same allowed frame place
          on);
      ended = on.so;
    }

-- so does whatever a crash leaves
pub leaves_further : {D : Type 0} (moment : D → ℕ) (left_since : D → ℕ → Image → Type 0) (old mid new : D)
    (first s : Stage) (reader : Reader) (left : Option (List ℕ)) (given payload : List ℕ) → Reaches first s
    → given ≡ payload → IsPayload payload → Gives s.place s.left (ahead reader left) (frame_bytes payload)
    → reader.place ≡ s.place + length (frame_bytes payload)
    → LeavesOnly moment left_since old mid (StandsBehind first) → LeavesOnly moment left_since mid new
    (StandsUpTo s.number given reader s.core s.taken) → LeavesOnly moment left_since old new (StandsBehind first)
leaves_further moment left_since old mid new first s reader left given payload reached same allowed frame place before
    now =
    joined moment left_since (λ disk image. left_since disk 0 image) old mid new (StandsBehind first) before
    (weaker moment left_since (λ disk image. left_since disk 0 image) mid new
    (StandsUpTo s.number given reader s.core s.taken) (StandsBehind first) now
    (λ image may. stands_further first s reader left given payload image reached same allowed frame place may))

-- they lie in a frame and a block
not_far : (s : Stage) (reader : Reader) (given payload : List ℕ) (IsSo : Core → Type 0) → IsPayload payload
    → reader.place ≡ s.place + length (frame_bytes payload) → HoldsBlock reader
    → (on : TakesUpTo s.number given reader s.core s.taken IsSo) → on.next.place ≤ s.place + most_frame + most_held
not_far s reader given payload IsSo allowed place block on = omega
    (arith, place, frame_long payload, allowed.1, block, on.hands.same)

-- where the state at a stage is kept, so much is
keeps_at : (IsKept : Core → Type 0) (MayKeep : Core → Core → Type 0) (s : Stage) (stop : FollowStop) → IsKept s.core → MayKeep s.core s.core → KeepsAt IsKept MayKeep s stop
keeps_at IsKept MayKeep s (Store stop) kept may = record { last = s; reached = Here; ended = (may, omega arith) }
keeps_at IsKept MayKeep s (Frame at) kept may = kept
keeps_at IsKept MayKeep s (Cut number) kept may = kept
keeps_at IsKept MayKeep s Other kept may = kept
keeps_at IsKept MayKeep s (Gap number) kept may = kept
keeps_at IsKept MayKeep s (NotAllowed number) kept may = kept
keeps_at IsKept MayKeep s ReadFault kept may = kept
keeps_at IsKept MayKeep s TooLong kept may = kept
keeps_at IsKept MayKeep s NoMemory kept may = kept

-- following stops behind a stage, and so many of the bytes that were taken aren't read yet
pub record StopsHeld (IsKept : Core → Type 0) (MayKeep : Core → Core → Type 0) (first : Stage)
    (left : Option (List ℕ)) (stop : FollowStop) : Type 0 where
  pub held : List ℕ
  pub block : length held ≤ most_held
  pub goes : Goes first (λ last. StopsKept IsKept MayKeep last (prepend_known held left) stop)

-- frames behind a stage were taken where the call stops there
stops_behind : (IsKept : Core → Type 0) (MayKeep : Core → Core → Type 0) (first s : Stage) (reader : Reader)
    (left : Option (List ℕ)) (given payload : List ℕ) (stop : FollowStop) → Reaches first s
    → StopsAt s (ahead reader left) stop → given ≡ payload → IsPayload payload
    → Gives s.place s.left (ahead reader left) (frame_bytes payload)
    → reader.place ≡ s.place + length (frame_bytes payload) → HoldsBlock reader
    → TakesUpTo s.number given reader s.core s.taken (IsKeptBy stop IsKept (MayKeep s.core))
    → StopsHeld IsKept MayKeep first left stop
stops_behind IsKept MayKeep first s reader left given payload (Store stop) reached stops same allowed frame place
    block on = record {
      held = reader.held;
      block = block;
      goes = record {
        last = s;
        reached = reached;
        ended = (
          stops,
          record {
            last = stage on.core on.count on.number on.next left;
            reached = goes_up_to s reader left given payload (MayKeep s.core) same allowed frame place on;
            ended = (on.so, not_far s reader given payload (MayKeep s.core) allowed place block on);
          },
        );
      };
    }
stops_behind IsKept MayKeep first s reader left given payload (Frame at) reached stops same allowed frame place block
    on = absurd on.so
stops_behind IsKept MayKeep first s reader left given payload (Cut number) reached stops same allowed frame place
    block on = absurd on.so
stops_behind IsKept MayKeep first s reader left given payload Other reached stops same allowed frame place block on =
    absurd on.so
stops_behind IsKept MayKeep first s reader left given payload (Gap number) reached stops same allowed frame place
    block on = absurd on.so
stops_behind IsKept MayKeep first s reader left given payload (NotAllowed number) reached stops same allowed frame
    place block on = absurd on.so
stops_behind IsKept MayKeep first s reader left given payload ReadFault reached stops same allowed frame place block
    on = absurd on.so
stops_behind IsKept MayKeep first s reader left given payload TooLong reached stops same allowed frame place block on
    = absurd on.so
stops_behind IsKept MayKeep first s reader left given payload NoMemory reached stops same allowed frame place block on =
    let last : Stage = stage on.core on.count on.number on.next left in
    record {
      held = on.next.held;
      block = hands_block reader on.next on.hands block;
      goes = record {
        last = last;
        reached = reaches_on first s last reached
            (goes_up_to s reader left given payload IsKept same allowed frame place on);
        ended = (
          inl (record {
            part = [];
            given = gives_none on.next.place (ahead on.next left) (ahead on.next left)
                (Keeps-refl (ahead on.next left));
            is = inl refl;
          }),
          on.so,
        );
      };
    }

-- the frame that was read at a stage isn't taken: all is as it was, and the state there is kept; or that frame was taken, and those behind it up to a state
pub stops_next : (IsKept : Core → Type 0) (MayKeep : Core → Core → Type 0) (Same : Type 0) (first s : Stage)
    (reader : Reader) (left : Option (List ℕ)) (given payload : List ℕ) (stop : FollowStop) → Reaches first s
    → StopsAt s (ahead reader left) stop → given ≡ payload → IsPayload payload
    → Gives s.place s.left (ahead reader left) (frame_bytes payload)
    → reader.place ≡ s.place + length (frame_bytes payload) → HoldsBlock reader → (Same → IsKept s.core)
    → (Same → MayKeep s.core s.core) → Same ⊎ TakesUpTo s.number given reader s.core s.taken
    (IsKeptBy stop IsKept (MayKeep s.core)) → StopsHeld IsKept MayKeep first left stop
stops_next IsKept MayKeep Same first s reader left given payload stop reached stops same allowed frame place block
    kept may (inl is) = record {
      held = reader.held;
      block = block;
      goes = record { last = s; reached = reached; ended = (stops, keeps_at IsKept MayKeep s stop (kept is) (may is)) };
    }
stops_next IsKept MayKeep Same first s reader left given payload stop reached stops same allowed frame place block
    kept may (inr on) =
    stops_behind IsKept MayKeep first s reader left given payload stop reached stops same allowed frame place block on

-- what stops at the last stage stops the call
pub stops_frames : {T : Type 0} (IsKept : Core → Type 0) (MayKeep : Core → Core → Type 0) (first : Stage)
    (left : Option (List ℕ)) (c : Core) (taken : ℕ) (r : Result T FollowStop) (stop : FollowStop)
    → IsErrAnd r (λ y. y ≡ stop) → (stopped : StopsHeld IsKept MayKeep first left stop)
    → (stop ≡ ReadFault → stopped.held ≡ []) → FollowsHeld IsKept MayKeep first left c taken r
stops_frames IsKept MayKeep first left c taken (Ok x) stop is stopped dry = absurd is
stops_frames IsKept MayKeep first left c taken (Err y) stop is stopped dry = record {
  held = stopped.held;
  block = stopped.block;
  follows = subst (λ (e : FollowStop). Goes first
      (λ last. StopsKept IsKept MayKeep last (prepend_known stopped.held left) e)) (sym is) stopped.goes;
  dry = λ e. dry (sym is ∙ e);
}

-- what takes a payload never stops by a fault of the source
no_fault : (disk disk' : ℕ) (P : Type 0) (stop : FollowStop) → FollowEnd 0 0 disk disk' stop → stop ≡ ReadFault → P
no_fault disk disk' P stop end is = let fault : FollowEnd 0 0 disk disk' ReadFault = subst (FollowEnd 0 0 disk disk') is end in absurd (omega (arith, fault.0))

pub never_dry : (disk disk' : ℕ) (P : Type 0) (stop : FollowStop) → FollowEnd 0 0 disk disk' stop → stop ≡ ReadFault → P
never_dry disk disk' P stop end is = no_fault disk disk' P stop end is

-- the end of the stream is read at a stage
read_end : {T : Type 0} (IsKept : Core → Type 0) (MayKeep : Core → Core → Type 0) (first s : Stage) (at : ℕ) (mid after : Option (List ℕ)) (r : Result T FollowStop) → at ≡ s.place + 1 → Reaches first s → Gives s.place s.left mid end_bytes → IsKept s.core → EndsThere at mid after r → FollowsFrames IsKept MayKeep first after s.core s.taken r
read_end IsKept MayKeep first s at mid after (Ok x) behind reached given kept ends = record { last = s; reached = reached; ended = ((gives_kept s.place s.left mid after end_bytes given ends.0, ends.1), refl, refl) }
read_end IsKept MayKeep first s at mid after (Err (Store stop)) behind reached given kept ends = absurd ends
read_end IsKept MayKeep first s at mid after (Err (Frame told)) behind reached given kept ends = record { last = s; reached = reached; ended = (inr (inr (ends.0 ∙ behind, gives_kept s.place s.left mid after end_bytes given ends.1, ends.2)), kept) }
read_end IsKept MayKeep first s at mid after (Err (Cut number)) behind reached given kept ends = absurd ends
read_end IsKept MayKeep first s at mid after (Err Other) behind reached given kept ends = absurd ends
read_end IsKept MayKeep first s at mid after (Err (Gap number)) behind reached given kept ends = absurd ends
read_end IsKept MayKeep first s at mid after (Err (NotAllowed number)) behind reached given kept ends = absurd ends
read_end IsKept MayKeep first s at mid after (Err ReadFault) behind reached given kept ends = record { last = s; reached = reached; ended = (inr (gives_kept s.place s.left mid after end_bytes given ends), kept) }
read_end IsKept MayKeep first s at mid after (Err TooLong) behind reached given kept ends = absurd ends
read_end IsKept MayKeep first s at mid after (Err NoMemory) behind reached given kept ends = absurd ends

pub read_end_held : {T : Type 0} (IsKept : Core → Type 0) (MayKeep : Core → Core → Type 0) (first s : Stage) (at : ℕ)
    (mid left : Option (List ℕ)) (held : List ℕ) (r : Result T FollowStop) → at ≡ s.place + 1 → Reaches first s
    → Gives s.place s.left mid end_bytes → IsKept s.core → EndsThere at mid (prepend_known held left) r
    → length held ≤ most_held → IfErr r (λ stop. stop ≡ ReadFault → held ≡ [])
    → FollowsHeld IsKept MayKeep first left s.core s.taken r
read_end_held IsKept MayKeep first s at mid left held r behind reached given kept ends block dry = record {
  held = held;
  block = block;
  follows = read_end IsKept MayKeep first s at mid (prepend_known held left) r behind reached given kept ends;
  dry = dry;
}

-- ---- the front

front_given : (left mid : Option (List ℕ)) (bytes : List ℕ) (whole : Bool) → Reads 25 0 left mid bytes (Ok whole) → ReadsFront left mid bytes
front_given left mid bytes true reads = record { given = reads.0; size = inl reads.1 }
front_given left mid bytes false reads = record { given = reads.0; size = inr (reads.1, reads.2) }

front_stops : (left after : Option (List ℕ)) (bytes : List ℕ) (stop : FollowStop) → Reads 25 0 left after bytes (Err stop) → StopsBefore left after stop
front_stops left after bytes (Store stop) reads = absurd reads
front_stops left after bytes (Frame at) reads = absurd reads
front_stops left after bytes (Cut number) reads = absurd reads
front_stops left after bytes Other reads = absurd reads
front_stops left after bytes (Gap number) reads = absurd reads
front_stops left after bytes (NotAllowed number) reads = absurd reads
front_stops left after bytes ReadFault reads = record { part = bytes; given = reads.0; is = reads.1 }
front_stops left after bytes TooLong reads = absurd (omega (arith, reads.1, reads.2))
front_stops left after bytes NoMemory reads = record { part = bytes; given = reads.0; is = reads.1 }

-- nothing of the front is read, since there was no memory
pub front_none : (left : Option (List ℕ)) → StopsBefore left (prepend_known [] left) NoMemory
front_none left = record {
  part = [];
  given = gives_none 0 left (prepend_known [] left)
      (subst (Keeps left) (sym (prepend_known-nil left)) (Keeps-refl left));
  is = omega arith;
}

-- the front is read
pub front_read : (left mid : Option (List ℕ)) (reader : Reader) (bytes : List ℕ) (whole : Bool) → reader ≡ record { held = []; place = 0 } → Reads 25 reader.place (ahead reader left) mid bytes (Ok whole) → ReadsFront left mid bytes
front_read left mid reader bytes whole new reads =
    front_given left mid bytes whole (subst (λ (known : Option (List ℕ)). Reads 25 0 known mid bytes (Ok whole)) (prepend_known-nil left) (subst (λ (r : Reader). Reads 25 r.place (ahead r left) mid bytes (Ok whole)) new reads))

-- the front isn't read
pub front_unread : (left after : Option (List ℕ)) (reader : Reader) (bytes : List ℕ) (stop : FollowStop) → reader ≡ record { held = []; place = 0 } → Reads 25 reader.place (ahead reader left) after bytes (Err stop) → StopsBefore left after stop
front_unread left after reader bytes stop new reads =
    front_stops left after bytes stop (subst (λ (known : Option (List ℕ)). Reads 25 0 known after bytes (Err stop)) (prepend_known-nil left) (subst (λ (r : Reader). Reads 25 r.place (ahead r left) after bytes (Err stop)) new reads))

-- ---- what is kept

-- what is kept at a stage means this
keeps_as : (IsKept IsHeld : Core → Type 0) (MayKeep : Core → Core → Type 0) (s : Stage) (stop : FollowStop) → (IsKept s.core → IsHeld s.core) → KeepsAt IsKept MayKeep s stop → KeepsAt IsHeld MayKeep s stop
keeps_as IsKept IsHeld MayKeep s (Store stop) leads keeps = keeps
keeps_as IsKept IsHeld MayKeep s (Frame at) leads keeps = leads keeps
keeps_as IsKept IsHeld MayKeep s (Cut number) leads keeps = leads keeps
keeps_as IsKept IsHeld MayKeep s Other leads keeps = leads keeps
keeps_as IsKept IsHeld MayKeep s (Gap number) leads keeps = leads keeps
keeps_as IsKept IsHeld MayKeep s (NotAllowed number) leads keeps = leads keeps
keeps_as IsKept IsHeld MayKeep s ReadFault leads keeps = leads keeps
keeps_as IsKept IsHeld MayKeep s TooLong leads keeps = leads keeps
keeps_as IsKept IsHeld MayKeep s NoMemory leads keeps = leads keeps

stops_as : (IsKept IsHeld : Core → Type 0) (MayKeep : Core → Core → Type 0) (s : Stage) (after : Option (List ℕ)) (stop : FollowStop) → ((x : Core) → IsKept x → IsHeld x) → StopsKept IsKept MayKeep s after stop → StopsKept IsHeld MayKeep s after stop
stops_as IsKept IsHeld MayKeep s after stop leads stops = (stops.0, keeps_as IsKept IsHeld MayKeep s stop (leads s.core) stops.1)

-- what is kept at the last stage means this
pub follows_as : (IsKept IsHeld : Core → Type 0) (MayKeep : Core → Core → Type 0) (c : Core) (left left' : Option (List ℕ)) (r : Result Followed FollowStop) → ((x : Core) → IsKept x → IsHeld x) → FollowsSource IsKept MayKeep c left left' r → FollowsSource IsHeld MayKeep c left left' r
follows_as IsKept IsHeld MayKeep c left left' (Ok followed) leads f =
    let p : PassesFront c left (IsDone IsKept (prepend_known f.held left') followed) = f.follows in
    let done : IsDone IsKept (prepend_known f.held left') followed p.goes.last = p.goes.ended in
    record {
      held = f.held;
      block = f.block;
      follows = record {
        front = p.front;
        mid = p.mid;
        read = p.read;
        judged = p.judged;
        goes = record {
          last = p.goes.last;
          reached = p.goes.reached;
          ended = record { ended = done.ended; number = done.number; taken = done.taken; kept = leads p.goes.last.core done.kept };
        };
      };
      dry = f.dry;
    }
follows_as IsKept IsHeld MayKeep c left left' (Err stop) leads f = record {
  held = f.held;
  block = f.block;
  follows = ⊎_elim
      (λ front. inl (front.0, leads c front.1))
      (λ (p : PassesFront c left (λ last. StopsKept IsKept MayKeep last (prepend_known f.held left') stop)). inr (record {
        front = p.front;
        mid = p.mid;
        read = p.read;
        judged = p.judged;
        goes = record {
          last = p.goes.last;
          reached = p.goes.reached;
          ended = stops_as IsKept IsHeld MayKeep p.goes.last (prepend_known f.held left') stop leads p.goes.ended;
        };
      }))
      f.follows;
  dry = f.dry;
}

-- what stops at the front, or behind it, stops the call
pub stops_source : (IsKept : Core → Type 0) (MayKeep : Core → Core → Type 0) (c : Core) (left left' : Option (List ℕ))
    (r : Result Followed FollowStop) (stop : FollowStop) (held : List ℕ) → IsErrAnd r (λ y. y ≡ stop)
    → Follows IsKept MayKeep c left (prepend_known held left') (Err stop) → length held ≤ most_held
    → (stop ≡ ReadFault → held ≡ []) → FollowsSource IsKept MayKeep c left left' r
stops_source IsKept MayKeep c left left' (Ok x) stop held is follows block dry = absurd is
stops_source IsKept MayKeep c left left' (Err y) stop held is follows block dry = record {
  held = held;
  block = block;
  follows = subst (λ (e : FollowStop). Follows IsKept MayKeep c left (prepend_known held left') (Err e)) (sym is) follows;
  dry = λ e. let same : y ≡ ReadFault = cc in ap length (dry (sym is ∙ same));
}

-- the stage behind a front that was read
pub from_front : (c : Core) (taken : ℕ) (reader : Reader) (left before : Option (List ℕ)) (bytes : List ℕ) (start : Reader) (front : Front) (IsLast : Stage → Type 0) → start ≡ record { held = []; place = 0 } → taken ≡ 0 → reader.place ≡ start.place + length bytes → ReadsFront before (ahead reader left) bytes → FrontJudged (summary c) bytes (Ok front) → Goes (stage c taken front.from reader left) IsLast → PassesFront c before IsLast
from_front c taken reader left before bytes start front IsLast new none place read judged goes =
    let long : length (front_bytes front) ≡ 25 = refl in
    let at : reader.place ≡ 25 = omega (arith, place, ap length judged.0, long, ap (λ (r : Reader). r.place) new) in
    record {
      front = front;
      mid = ahead reader left;
      read = subst (ReadsFront before (ahead reader left)) judged.0 read;
      judged = (refl, judged.1, judged.2);
      goes = subst (λ (n : ℕ). Goes (record { core = c; taken = n; number = front.from; place = 25; left = ahead reader left }) IsLast) none
          (subst (λ (n : ℕ). Goes (record { core = c; taken = taken; number = front.from; place = n; left = ahead reader left }) IsLast) at goes);
    }

-- no front is refused for a fault of the source
pub judged_dry : (s : Summary) (bytes : List ℕ) (P : Type 0) (stop : FollowStop) → FrontJudged s bytes (Err stop) → stop ≡ ReadFault → P
judged_dry s bytes P stop judged is = let no_way : FrontJudged s bytes (Err ReadFault) = subst (λ (e : FollowStop). FrontJudged s bytes (Err e)) is judged in absurd no_way

-- the stream ends, and this is told
pub done_source : (IsKept : Core → Type 0) (MayKeep : Core → Core → Type 0) (c now : Core) (taken : ℕ)
    (left left' : Option (List ℕ)) (held : List ℕ) (followed : Followed) → followed.number ≡ now.number
    → followed.taken ≡ taken → IsKept now → length held ≤ most_held
    → PassesFront c left (λ last. IsEnded last (prepend_known held left') × (last.core ≡ now) × (last.taken ≡ taken))
    → FollowsSource IsKept MayKeep c left left' (Ok followed)
done_source IsKept MayKeep c now taken left left' held followed number count kept block p =
    let e = p.goes.ended in
    record {
      held = held;
      block = block;
      follows = record {
        front = p.front;
        mid = p.mid;
        read = p.read;
        judged = p.judged;
        goes = record {
          last = p.goes.last;
          reached = p.goes.reached;
          ended = record { ended = e.0; number = number ∙ sym (ap (λ (x : Core). x.number) e.1); taken = count ∙ sym e.2; kept = subst IsKept (sym e.1) kept };
        };
      };
      dry = λ is. absurd (cc);
    }
