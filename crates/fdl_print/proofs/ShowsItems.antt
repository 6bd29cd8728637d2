-- Items are read again from their pieces.
use Rattle.std.proofs.Common.{ℕ, ◌<◌, Option, Some, None, List, [], ◌∷◌, ◌++◌, length, refl, subst, arith, length-append, flat_map}
use Rattle.flow_model.specs.declared.trees.NameAt.{NameAt}
use Rattle.flow_model.specs.declared.trees.NumberAt.{NumberAt}
use Rattle.flow_model.specs.declared.trees.KindTree.{KindTree}
use Rattle.flow_model.specs.declared.trees.KindTree.TheVariants as kind
use Rattle.flow_model.specs.declared.trees.Member.{Member}
use Rattle.flow_model.specs.declared.trees.StructDef.{StructDef}
use Rattle.flow_model.specs.declared.trees.PersonTree.{PersonTree}
use Rattle.flow_model.specs.declared.trees.ProcessTree.{ProcessTree}
use Rattle.flow_model.specs.declared.trees.ItemTree.{ItemTree}
use Rattle.flow_model.specs.declared.trees.ItemTree.TheVariants as item
use Rattle.flow_model.specs.declared.trees.Tree.{Tree}
use Rattle.fdl_lexer.specs.declared.kinds.Token.{Token as Placed}
use Rattle.fdl_lexer.specs.Tokens.{AreTokens}
use Rattle.fdl_parser.specs.Tokens.{Tokens, spell}
use Rattle.fdl_parser.specs.Items.{block_levels, IsKind, LongKind, StringKind, StructKind, IsCount, NoCount, OneCount, IsMember, OneMember, AreMembers, NoMember, MoreMembers, IsStructure, OneStructure, AreNamed, FirstRole, NextRole, AreRoles, NoRoles, SomeRoles, IsPerson, OnePerson, IsProcess, OneProcess, IsItem, StructureItem, PersonItem, ProcessItem, AreItems, NoItem, MoreItems, IsTree}
use Rattle.fdl_print.specs.Elements.{kind_piece, count_pieces, member_line, structure_pieces, first_role, later_role, roles_pieces, person_pieces}
use Rattle.fdl_print.specs.Canonical.{process_pieces, item_pieces, canonical_text}
use Rattle.fdl_print.specs.Same.{Each, NoneLeft, OneMore, SameName, SameKind, TwoLong, TwoString, TwoStructs, SameCount, NoCounts, TwoCounts, SameMember, SameStructure, SamePerson, SameProcess, SameItem, TwoStructures, TwoPeople, TwoProcesses}
use Rattle.fdl_print.specs.Laws.{ReadsAs}
use Rattle.fdl_print.proofs.Fine.{fine_open, fine_close, fine_comma, fine_colon, fine_semicolon}
use Rattle.fdl_print.proofs.Laid.{laid}
use Rattle.fdl_print.proofs.Shows.{Shows, Again, tokens_sound, chain, so, by, line, stop_first, nothing_shows, none_shows, flat_shows, more_later, each_push, token_shows, word_shows, name_shows, number_shows}
use Rattle.fdl_print.proofs.ShowsElements.{closing_shows, heading_shows, elements_show}

-- ---- structures

kind_shows : {k : KindTree} {a b : Tokens} → IsKind k a b → Shows (kind_piece k ∷ []) (Again KindTree SameKind IsKind k) a b
kind_shows (LongKind h) = so (λ u v t. record { tree = kind.Long; is = LongKind t.is; same = TwoLong }) (word_shows h)
kind_shows (StringKind h) = so (λ u v t. record { tree = kind.Str; is = StringKind t.is; same = TwoString }) (word_shows h)
kind_shows (StructKind h) = so (λ u v t. record { tree = kind.Struct t.tree; is = StructKind t.is; same = TwoStructs t.same }) (name_shows h)

count_shows : {x : Option NumberAt} {a b : Tokens} → IsCount x a b → Shows (count_pieces x) (Again (Option NumberAt) SameCount IsCount x) a b
count_shows NoCount = so (λ u v t. record { tree = None; is = subst (λ (z : Tokens). IsCount None u z) t NoCount; same = NoCounts }) nothing_shows
count_shows (OneCount h j k) =
    so (λ u v t. record { tree = Some t.second.first.tree; is = OneCount t.first.is t.second.first.is t.second.second.is; same = TwoCounts t.second.first.same })
    (chain (token_shows fine_open h) (chain (number_shows j) (token_shows fine_close k)))

member_shows : {x : Member} {a b : Tokens} → IsMember x a b → Shows (member_line x) (Again Member SameMember IsMember x) a b
unfolding member_line
member_shows (OneMember h1 h2 h3 h4 h5) =
    so (λ u v t. record {
      tree = record { name = t.first.tree; kind = t.second.second.first.tree; count = t.second.second.second.first.tree };
      is = OneMember t.first.is t.second.first.is t.second.second.first.is t.second.second.second.first.is t.second.second.second.second.is;
      same = record { name = t.first.same; kind = t.second.second.first.same; count = t.second.second.second.first.same };
    }) (chain (name_shows h1) (chain (token_shows fine_colon h2) (chain (kind_shows h3) (chain (count_shows h4) (line (token_shows fine_semicolon h5))))))

members_shows : {xs : List Member} {a b : Tokens} → AreMembers xs a b → Shows (flat_map member_line xs) (Again (List Member) (Each Member SameMember) AreMembers xs) a b
members_shows NoMember = none_shows (λ b. NoMember)
members_shows (MoreMembers h j) = flat_shows member_line (λ ys y u v w i k. MoreMembers i k) (members_shows h) (member_shows j)

structure_shows : {x : StructDef} {a b : Tokens} → IsStructure x a b → Shows (structure_pieces x) (Again StructDef SameStructure IsStructure x) a b
structure_shows (OneStructure h1 h2 h3 h4) =
    so (λ u v t. record {
      tree = record { name = t.second.first.tree; members = t.second.second.first.tree; end = t.second.second.second.tree };
      is = OneStructure t.first.is t.second.first.is t.second.second.first.is t.second.second.second.is;
      same = record { name = t.second.first.same; members = t.second.second.first.same; end = t.second.second.second.same };
    }) (chain (word_shows h1) (chain (line (name_shows h2)) (chain (members_shows h3) (closing_shows h4))))

-- ---- persons

named_some : {ns : List NameAt} {a b : Tokens} → AreNamed ns a b → 0 < length ns
named_some (FirstRole h j) = omega arith
named_some (NextRole {ns = ns} {n = n} h j k) = omega (arith, length-append ns (n ∷ []))

named_shows : {ns : List NameAt} {a b : Tokens} → AreNamed ns a b → Shows (roles_pieces ns) (Again (List NameAt) (Each NameAt SameName) AreNamed ns) a b
unfolding first_role later_role
named_shows (FirstRole h j) = so (λ u v t. record { tree = t.second.tree ∷ []; is = FirstRole t.first.is t.second.is; same = OneMore t.second.same NoneLeft }) (chain (word_shows h) (name_shows j))
named_shows (NextRole {ns = ns} {n = n} h j k) =
    by (more_later first_role later_role roles_pieces (λ x xs. refl) ns n (named_some h))
    (so (λ u v t. record { tree = t.first.tree ++ t.second.second.tree ∷ []; is = NextRole t.first.is t.second.first.is t.second.second.is; same = each_push t.first.same t.second.second.same })
    (chain (named_shows h) (chain (token_shows fine_comma j) (name_shows k))))

roles_shows : {ns : List NameAt} {a b : Tokens} → AreRoles ns a b → Shows (roles_pieces ns) (Again (List NameAt) (Each NameAt SameName) AreRoles ns) a b
roles_shows NoRoles = none_shows (λ b. NoRoles)
roles_shows (SomeRoles h) = so (λ u v t. record { tree = t.tree; is = SomeRoles t.is; same = t.same }) (named_shows h)

person_shows : {x : PersonTree} {a b : Tokens} → IsPerson x a b → Shows (person_pieces x) (Again PersonTree SamePerson IsPerson x) a b
person_shows (OnePerson h1 h2 h3 h4) =
    so (λ u v t. record {
      tree = record { name = t.second.first.tree; roles = t.second.second.first.tree; end = t.second.second.second.tree };
      is = OnePerson t.first.is t.second.first.is t.second.second.first.is t.second.second.second.is;
      same = record { name = t.second.first.same; roles = t.second.second.first.same; end = t.second.second.second.same };
    }) (chain (word_shows h1) (chain (name_shows h2) (chain (roles_shows h3) (stop_first (closing_shows h4)))))

-- ---- processes and items

process_shows : {x : ProcessTree} {a b : Tokens} → IsProcess x a b → Shows (process_pieces x) (Again ProcessTree SameProcess IsProcess x) a b
process_shows (OneProcess h1 h2 h3 h4 h5) =
    so (λ u v t. record {
      tree = record { place = t.first.place; name = t.second.first.first.tree; input = t.second.first.second.first; output = t.second.first.second.second; elements = t.second.second.first.tree; end = t.second.second.second.tree };
      is = OneProcess t.first.is t.second.first.first.is t.second.first.second.are t.second.second.first.is t.second.second.second.is;
      same = record { name = t.second.first.first.same; input = t.second.first.second.same_input; output = t.second.first.second.same_output; elements = t.second.second.first.same; end = t.second.second.second.same };
    }) (chain (word_shows h1) (chain (heading_shows h2 h3) (chain (stop_first (elements_show block_levels _ _ _ h4)) (closing_shows h5))))

item_shows : {x : ItemTree} {a b : Tokens} → IsItem x a b → Shows (item_pieces x) (Again ItemTree SameItem IsItem x) a b
unfolding item_pieces
item_shows (StructureItem h) = so (λ u v t. record { tree = item.Structure t.tree; is = StructureItem t.is; same = TwoStructures t.same }) (structure_shows h)
item_shows (PersonItem h) = so (λ u v t. record { tree = item.Person t.tree; is = PersonItem t.is; same = TwoPeople t.same }) (person_shows h)
item_shows (ProcessItem h) = so (λ u v t. record { tree = item.Process t.tree; is = ProcessItem t.is; same = TwoProcesses t.same }) (process_shows h)

items_show : {xs : List ItemTree} {a b : Tokens} → AreItems xs a b → Shows (flat_map item_pieces xs) (Again (List ItemTree) (Each ItemTree SameItem) AreItems xs) a b
items_show NoItem = none_shows (λ b. NoItem)
items_show (MoreItems h j) = flat_shows item_pieces (λ ys y u v w i k. MoreItems i k) (items_show h) (item_shows j)

-- the canonical text of a tree reads as that tree
pub reads_as : (source : List ℕ) (tokens : List Placed) (tree : Tree) → AreTokens source tokens → IsTree tree (spell source tokens) → ReadsAs tree (canonical_text tree)
reads_as source tokens tree are parsed =
    let s = (items_show parsed).shown (tokens_sound source tokens are) in
    let l = laid (flat_map item_pieces tree.items) s.said s.says in
    let again = s.reads (spell (canonical_text tree) l.tokens) [] l.fits in
    record { tokens = l.tokens; lexed = l.are; again = record { items = again.tree }; parsed = again.is; same = again.same }
