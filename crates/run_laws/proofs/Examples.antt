-- The premises of the laws can be met: by a disk on which `new` makes a store, and by runs under `run` and `follow`
-- that stop for want of memory.
use Rattle.std.proofs.Common.{◌≡◌, ◌⊎◌, inl, inr, ℕ, zero, suc, ◌≤◌, List, [], ◌∷◌, ◌++◌, Some, Err, refl, sym}
use Rattle.std.proofs.Common.{subst, ◌∙◌, arith}
use Rattle.std.specs.Prelude.{codes}
use Rattle.std.proofs.lemmas.List.Elements.{All-nil}
use Rattle.flow_disk.specs.Images.{Image}
use Rattle.flow_disk.specs.declared.disk.Disk.{Ghosts}
use Rattle.flow_disk.specs.declared.disk.Slot.TheVariants.{A}
use Rattle.flow_model.specs.declared.transactions.Numbered.{Numbered}
use Rattle.flow_session.specs.Histories.{StandsFor, IsLive}
use Rattle.flow_txn.specs.Ranges.{IsInRange}
use Rattle.flow_words.specs.Correct.{RunIsCorrect}
use Rattle.flow_words.specs.Crashes.{empty_history}
use Rattle.flow_words.specs.Numbers.{limit_words, queue_words}
use Rattle.flow_words.specs.Outside.{Channels, files, KeepsFiles}
use Rattle.flow_words.specs.declared.numbers.Settings.{Settings}
use Rattle.flow_words.specs.declared.status.Status.TheVariants.{Done, NoMemory}
use Rattle.flow_words.specs.declared.word.Word.TheVariants.{New, Run, Follow}
use Rattle.standby.specs.declared.stops.FollowStop.TheVariants as follow
use Rattle.txn_log.specs.Opening.{first_header, MayBeMade}
use Rattle.txn_log.specs.Stored.{is_unmade, has_magic, header_of, header_fault, header_text, length_at}
use Rattle.txn_log.specs.Stores.{NoStore, Counts, store_of}
use Rattle.txn_log.specs.declared.stops.LogStop.TheVariants as stop
use Rattle.run_laws.specs.Lives.{IsLeft, WasMade, WasRun, WasFollowed}

-- ---- a disk, which is the number of its moment

pub no_image : Image
no_image = record { a = []; b = [] }

pub new_image : Image
new_image = record { a = 1 ∷ header_text (first_header 2 20) ++ 0 ∷ []; b = [] }

-- nothing stands on it at the moment 0, and a new store from then on
abbrev pub seen_at : ℕ → Image
seen_at zero = no_image
seen_at (suc n) = new_image

abbrev pub disk : Ghosts ℕ
disk = record {
  tells = Unit {0};
  seen = seen_at;
  images = λ now image. image ≡ seen_at now;
  moment = λ now. now;
  left_since = λ now t image. (m : ℕ) × (t ≤ m) × (m ≤ now) × (image ≡ seen_at m);
  faults = λ now. 0;
}

nothing_there : store_of no_image ≡ NoStore
unfolding no_image is_unmade has_magic header_of header_fault length_at
nothing_there = refl

pub new_there : store_of new_image ≡ Counts A (first_header 2 20) [] 42
unfolding new_image is_unmade has_magic header_of header_fault header_text length_at
new_there = refl

pub new_stands : StandsFor (empty_history 2 20) new_image
new_stands = record {
  slot = A;
  header = first_header 2 20;
  records = [];
  end = 42;
  counts = new_there;
  comes_to = refl;
  fits = All-nil (λ (n : Numbered). IsInRange n.number n.transaction);
  later = omega arith;
  live = All-nil (IsLive (empty_history 2 20));
}

-- ---- `new a ab LIMIT 20 QUEUES 2`

abbrev settings : Settings
settings = record { queues = 2; limit = 20 }

abbrev new_words : List (List ℕ)
new_words = codes "new" ∷ codes "a" ∷ codes "ab" ∷ limit_words 20 ++ queue_words 2

abbrev told : List ℕ → Channels
told printed = record {
  left = Some [];
  left' = Some [];
  held = Some [];
  held' = Some printed;
  reads = 0;
  reads' = 0;
  puts = 0;
  puts' = 0;
}

apart : codes "a" ≡ codes "ab" → ⊥
apart same = cc

made_at : (m : ℕ) (image : Image) → m ≤ 1 → image ≡ seen_at m → (image ≡ no_image) ⊎ (image ≡ new_image)
made_at zero image within is = inl is
made_at (suc n) image within is = inr is

makes : RunIsCorrect new_words (told (codes "ok NEW\n")) (files disk 0 1) Done
makes = record {
  word = Some (New settings);
  said = (
    refl,
    (
      apart,
      record {
        queues_in = (omega arith, omega arith);
        limit_in = (omega arith, omega arith);
        named = inr (inr (inr refl));
      },
    ),
  );
  prints = inl (record {
    stands = λ tells image is. subst (StandsFor (empty_history 2 20)) (sym is) new_stands;
    printed = inl (refl, refl);
  });
  statuses = inl refl;
  causes = tt;
  crash = λ tells only. record {
    any_moment = record {
      later = omega arith;
      each = λ image left. may image (made_at left.0 image left.2 left.3);
      before = λ t image early left. inr (may image (made_at left.0 image left.2 left.3));
    };
    made = λ done image is. subst (StandsFor (empty_history 2 20)) (sym is) new_stands;
  };
  source = refl;
  untouched = tt;
}
  where
    may : (image : Image) → (image ≡ no_image) ⊎ (image ≡ new_image) → MayBeMade 2 20 no_image image
    may image (inl same) = inl same
    may image (inr same) = inr (
      nothing_there,
      inr (subst (λ (c : Image). store_of c ≡ Counts A (first_header 2 20) [] 42)
          (sym same) new_there),
    )

was_made : IsLeft disk settings new_image
unfolding makes
was_made = WasMade new_words (told (codes "ok NEW\n")) 0 1 Done (tt, λ image is. is) nothing_there makes refl
    (1, omega arith, omega arith, refl) (λ none. let never : Counts A (first_header 2 20) [] 42 ≡ NoStore =
    sym new_there ∙ none in cc)

-- ---- `run a ab`, which finds no memory

abbrev run_words : List (List ℕ)
run_words = codes "run" ∷ codes "a" ∷ codes "ab" ∷ []

kept : (m : ℕ) (image : Image) → 1 ≤ m → image ≡ seen_at m → image ≡ new_image
kept zero image some_ is = let never : ⊥ = omega (arith, some_) in absurd never
kept (suc n) image some_ is = is

pub stays : (n : ℕ) → KeepsFiles (files disk (suc n) (suc (suc n)))
stays n = record {
  later = omega arith;
  each = λ image left.
      let since = left.1 in
      kept left.0 image (omega (arith, since)) left.3;
  before = λ t image early left. go t image early left.0 left.1 left.2 left.3;
}
  where
    go : (t : ℕ) (image : Image) → t ≤ suc n → (m : ℕ) → t ≤ m → m ≤ suc (suc n) → image ≡ seen_at m
        → ((k : ℕ) × (t ≤ k) × (k ≤ suc n) × (image ≡ seen_at k)) ⊎ (image ≡ new_image)
    go t image early zero since within is = inl (0, since, omega arith, is)
    go t image early (suc m) since within is = inr is

runs : RunIsCorrect run_words (told []) (files disk 1 2) NoMemory
runs = record {
  word = Some Run;
  said = (refl, (apart, refl));
  prints = inl ((stop.NoMemory, λ tells. tt, inl (refl, refl)), refl, λ tells only. stays 0);
  statuses = inr (inr (inr (inr (inr (inl refl)))));
  causes = tt;
  crash = λ tells only. inl (stays 0);
  source = tt;
  untouched = tt;
}

was_run : IsLeft disk settings new_image
unfolding runs
was_run = WasRun run_words (told []) 1 2 NoMemory (tt, λ image is. is) was_made runs refl
    (2, omega arith, omega arith, refl)

-- ---- `follow a ab`, which finds no memory

abbrev follow_words : List (List ℕ)
follow_words = codes "follow" ∷ codes "a" ∷ codes "ab" ∷ []

follows : RunIsCorrect follow_words (told []) (files disk 2 3) NoMemory
follows = record {
  word = Some Follow;
  said = (refl, (apart, refl));
  prints = record {
    result = Err follow.NoMemory;
    comes_to = inl (tt, refl, λ tells only. stays 1);
    printed = (refl, refl);
  };
  statuses = inr (inr (inr (inr (inr (inr (inl refl))))));
  causes = tt;
  crash = λ tells only. inl (stays 1);
  source = tt;
  untouched = tt;
}

was_followed : IsLeft disk settings new_image
unfolding follows
was_followed = WasFollowed follow_words (told []) 2 3 NoMemory (tt, λ image is. is) was_run follows refl
    (3, omega arith, omega arith, refl)
