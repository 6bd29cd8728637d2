-- A stream that ends behind its front is followed into a new store, from the state of the engine that it is opened to.
use Rattle.std.proofs.Common.{◌≡◌, inl, inr, [], ◌++◌, Some, Ok, refl, sym, ap, subst, arith}
use Rattle.flow_core.specs.Summaries.{Summary, summary}
use Rattle.flow_core.specs.declared.state.Core.{Core}
use Rattle.flow_disk.specs.Images.{Image}
use Rattle.flow_disk.specs.Moments.{LeavesOnly}
use Rattle.flow_disk.specs.declared.disk.Slot.TheVariants.{A}
use Rattle.flow_disk.proofs.Runs.{weaker}
use Rattle.flow_session.specs.Fitting.{HasFitRecords}
use Rattle.flow_session.specs.Histories.{StandsFor, StandsAfterSome, under}
use Rattle.flow_session.specs.Refusing.{Begins, NoRecord, IsOpenedTo}
use Rattle.flow_session.specs.Replaying.{Replays}
use Rattle.flow_session.proofs.Replaying.{blank_seen}
use Rattle.flow_words.specs.Following.{PrintsFollowed}
use Rattle.flow_words.specs.Outside.{Channels, files}
use Rattle.flow_words.specs.declared.status.Status.TheVariants.{Done}
use Rattle.machine_laws.proofs.Keyed.{blank_keyed}
use Rattle.standby.specs.Followed.{IsAtStage}
use Rattle.standby.specs.Stages.{Here, behind}
use Rattle.standby.specs.Streams.{front_bytes, end_bytes}
use Rattle.standby.specs.Texts.{followed_line}
use Rattle.standby.specs.declared.following.Followed.{Followed}
use Rattle.standby.specs.declared.frames.Front.{Front}
use Rattle.txn_log.specs.Opening.{first_header}
use Rattle.txn_log.specs.declared.header.Header.{Header}
use Rattle.run_laws.proofs.Examples.{disk, new_image, new_there, new_stands, stays}

front : Front
front = record { queues = 2; limit = 20; from = 0 }

followed : Followed
followed = record { number = 0; taken = 0 }

-- the source has such a stream, and the sink gets the line about it
fed : Channels
unfolding front followed
fed = record {
  left = Some (front_bytes front ++ end_bytes);
  left' = Some [];
  held = Some [];
  held' = Some (followed_line followed);
  reads = 0;
  reads' = 0;
  puts = 0;
  puts' = 0;
}

abbrev header : Header
header = first_header 2 20

module _ (c : Core) (begins : Begins header c) where
  stands : (image : Image) → image ≡ new_image → StandsFor (summary c) image
  stands image same =
      subst (StandsFor (summary c)) (sym same)
      (subst (λ (s : Summary). StandsFor s new_image) (sym begins.counts) new_stands)

  opened : IsOpenedTo new_image c
  opened = record {
    slot = A;
    header = header;
    payloads = [];
    end = 42;
    counts = new_there;
    leads = (c, begins, NoRecord);
  }

  replays : Replays new_image c
  replays = record {
    slot = A;
    header = header;
    records = [];
    end = 42;
    counts = new_there;
    state = blank_seen c (under header) begins.blank begins.counts;
    keyed = blank_keyed c begins.blank;
  }

  stream_followed : PrintsFollowed fed (files disk 2 3) Done
  unfolding front followed fed
  stream_followed = record {
    result = Ok followed;
    comes_to = inr (record {
      core = c;
      stood = λ told. stands new_image refl;
      reached = λ told. opened;
      state = λ told. replays;
      queued = λ told.
          let count : (summary c).queues ≡ 2 = ap (λ (s : Summary). s.queues) begins.counts in
          omega (arith, count);
      makes = λ told only. record {
        transactions = [];
        any_moment = λ tells. kept (StandsAfterSome (summary c) []) (λ image same. (0, stands image same));
        fit = λ tells fit from. kept HasFitRecords
            (λ image same. subst HasFitRecords (sym same) (fit new_image (2, omega arith, omega arith, refl)));
        ended = (c, refl);
      };
      stages = λ told only. kept (IsAtStage c fed.left) (λ image same. inl (stands image same));
      follows = λ some_. record {
        held = [];
        block = omega arith;
        follows = record {
          front = front;
          mid = Some end_bytes;
          read = record { given = record { taken = refl; within = omega arith }; size = inl refl };
          judged = (
            refl,
            (sym (ap (λ (s : Summary). s.queues) begins.counts), sym (ap (λ (s : Summary). s.limit) begins.counts)),
            omega arith,
          );
          goes = record {
            last = behind c front (Some end_bytes);
            reached = Here;
            ended = record {
              ended = (record { taken = refl; within = omega arith }, refl);
              number = sym (ap (λ (s : Summary). s.transactions) begins.counts);
              taken = refl;
              kept = λ told image is. stands image is;
            };
          };
        };
        dry = λ same. cc;
      };
    });
    printed = inr (inl (refl, refl));
  }
    where
      kept : (P : Image → Type 0) → ((image : Image) → image ≡ new_image → P image)
          → LeavesOnly disk.moment disk.left_since 2 3 P
      kept P so = weaker disk.moment disk.left_since disk.images 2 3 (λ image. image ≡ new_image) P (stays 1) so
