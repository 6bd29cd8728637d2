-- What stands outside of a run, before it and after it: the source and the sink, and the disk.
use Rattle.std.specs.Prelude.{ℕ, List, Option}
use Rattle.flow_disk.specs.declared.disk.Disk.{Ghosts}
use Rattle.flow_disk.specs.Moments.{Only}
use Rattle.flow_io.specs.declared.outside.Sink as sink
use Rattle.flow_io.specs.declared.outside.Source as source
use Rattle.flow_session.specs.Runs.{KeepsStore}

-- the bytes that the source has left and those that the sink holds, where they tell them, and the counts of their
-- faults
pub record Channels : Type 0 where
  pub left : Option (List ℕ)
  pub left' : Option (List ℕ)
  pub held : Option (List ℕ)
  pub held' : Option (List ℕ)
  pub reads : ℕ
  pub reads' : ℕ
  pub puts : ℕ
  pub puts' : ℕ

-- the channels of a source and a sink, before and after
abbrev pub channels : {S K : Type 0} → source.Ghosts S → sink.Ghosts K → S → S → K → K → Channels
channels s k src src' out out' = record {
  left = s.left src;
  left' = s.left src';
  held = k.held out;
  held' = k.held out';
  reads = s.faults src;
  reads' = s.faults src';
  puts = k.faults out;
  puts' = k.faults out';
}

-- a disk, before and after, and what it tells
pub record Files (D : Type 0) : Type 1 where
  pub disk : Ghosts D
  pub old : D
  pub new : D

abbrev pub files : {D : Type 0} → Ghosts D → D → D → Files D
files g before now = record { disk = g; old = before; new = now }

-- so it is where the disk tells what its slots hold and nothing on it is unsynced
abbrev pub IfSettled : {D : Type 0} → Files D → Type 0 → Type 0
IfSettled f IsSo = f.disk.tells → Only (f.disk.seen f.old) (f.disk.images f.old) → IsSo

-- a crash at any moment leaves what was there
abbrev pub KeepsFiles : {D : Type 0} → Files D → Type 0
KeepsFiles f = KeepsStore f.disk.moment f.disk.left_since f.disk.seen f.old f.new
