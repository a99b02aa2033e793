-- What the words of a line say.
--   parity             behind the two words of a command: nothing, or `bad`
--   command_of, store_of   a command and a processor store, from the words behind their verbs
--   call_of            a call, from its verb and the words behind it
--   named              a name in no place: lines are told apart by their names, not by where these lie
--   placeless, placeless_line   a set-up line, and any line, with its name in no place
--   name_of            one word, which may be any
--   every              what f reads from each word
--   padded             the first n of a list, zeros behind
--   keys_of            the keys of a storage: how many, and the first 32
--   storage_by, pack_by   a storage and a pack, from the kind and the words behind it
--   defect_of          the field of a place
--   set_up_of          a set-up line, from its verb and the words behind it
--   count_of           words to be shown: at most 65536
--   look_by, look_of   a line that only looks, from its kind and the words behind it; from the words behind `show`
--   line_by            a line, from its verb and the words behind it
--   line_of            a line, from its words
use Rattle.std.specs.Prelude.{ℕ, zero, suc, Bool, true, false, cond, List, [], ◌∷◌, length, Some, None, codes, Option, ◌==◌, nat_le, slice_index}
use Rattle.std.specs.Borrow.{Bor}
use Rattle.std.specs.Option.{option_map}
use Rattle.std.specs.Str.{bytes_eq}
use Rattle.card.specs.declared.call.Call.{Call}
use Rattle.card.specs.declared.call.Call.TheVariants.{Command, Halt, Store, Readiness, Service, Step}
use Rattle.script.specs.declared.verb.CallVerb.{CallVerb}
use Rattle.script.specs.declared.verb.CallVerb.TheVariants.{Command as CommandVerb, Step as StepVerb, Service as ServiceVerb, Ready as ReadyVerb, Unready as UnreadyVerb, Halt as HaltVerb, Store as StoreVerb}
use Rattle.script.specs.declared.kinds.StorageKind.{StorageKind}
use Rattle.script.specs.declared.kinds.StorageKind.TheVariants.{Plain, Keyed, File}
use Rattle.script.specs.declared.kinds.PackKind.{PackKind}
use Rattle.script.specs.declared.kinds.PackKind.TheVariants.{Plain as PlainFile, Chained as ChainedFile, Fresh as FreshPack}
use Rattle.script.specs.declared.kinds.LookKind.{LookKind}
use Rattle.script.specs.declared.kinds.LookKind.TheVariants.{Card as CardKind, Status as StatusKind, Words as WordsKind, Track as TrackKind, Places as PlacesKind}
use Rattle.script.specs.declared.line.Line.{Line}
use Rattle.script.specs.declared.line.Line.TheVariants.{Blank, SetUp as SetsUp, Save, Call as Calls, Look as Looks}
use Rattle.script.specs.declared.line.SetUp.{SetUp}
use Rattle.script.specs.declared.line.SetUp.TheVariants.{StoragePlain, StorageKeyed, StorageFile, PackPlain, PackChained, PackFresh, Device, Parity, Unparity, Defect, Undefect, Fresh}
use Rattle.script.specs.declared.line.Keys.{Keys}
use Rattle.script.specs.declared.line.DefectAt.{DefectAt}
use Rattle.script.specs.declared.line.Look.{Look}
use Rattle.script.specs.declared.line.Look.TheVariants.{Card, Status, Words, Track, Places}
use Rattle.script.specs.declared.verb.SetUpVerb.{SetUpVerb}
use Rattle.script.specs.declared.verb.SetUpVerb.TheVariants.{Storage as StorageVerb, Pack as PackVerb, Device as DeviceVerb, Parity as ParityVerb, Unparity as UnparityVerb, Defect as DefectVerb, Undefect as UndefectVerb, Fresh as FreshVerb}
use Rattle.script.specs.declared.verb.Verb.{Verb}
use Rattle.script.specs.declared.verb.Verb.TheVariants.{Calls as CallsVerb, SetsUp as SetsUpVerb, Saves as SavesVerb, Shows as ShowsVerb}
use Rattle.script.specs.Figures.{word, byte, address, decimal}
use Rattle.script.specs.Kinds.{storage_kind, pack_kind, look_kind, field_kind}
use Rattle.script.specs.Takes.{after, first, end}
use Rattle.script.specs.Verbs.{verb_of}

abbrev pub parity : List (List ℕ) → Option Bool
parity [] = Some true
parity (w ∷ ws) = cond (bytes_eq w (codes "bad")) (end false ws) None

abbrev pub command_of : List (List ℕ) → Option Call
command_of = first word (λ a. first word (λ b ws. option_map (λ p. Command a b p) (parity ws)))

abbrev pub store_of : List (List ℕ) → Option Call
store_of = first address (λ a. first byte (λ k. first word (λ w. end (Store a k w))))

abbrev pub call_of : CallVerb → List (List ℕ) → Option Call
call_of CommandVerb ws = command_of ws
call_of StepVerb ws = end Step ws
call_of ServiceVerb ws = end Service ws
call_of ReadyVerb ws = end (Readiness true) ws
call_of UnreadyVerb ws = end (Readiness false) ws
call_of HaltVerb ws = end Halt ws
call_of StoreVerb ws = store_of ws

abbrev pub named : List ℕ → Bor (List ℕ)
named w = record { ref_ptr = (0, 0); now = w }

abbrev pub placeless : SetUp → SetUp
placeless (StoragePlain n) = StoragePlain n
placeless (StorageKeyed ks) = StorageKeyed ks
placeless (StorageFile n) = StorageFile (named n.now)
placeless (PackPlain n) = PackPlain (named n.now)
placeless (PackChained n) = PackChained (named n.now)
placeless (PackFresh n) = PackFresh n
placeless (Device d) = Device d
placeless (Parity a) = Parity a
placeless (Unparity a) = Unparity a
placeless (Defect d) = Defect d
placeless (Undefect d) = Undefect d
placeless (Fresh c h) = Fresh c h

abbrev pub name_of : List (List ℕ) → Option (List ℕ)
name_of = first (λ w. Some w) (λ n. end n)

unfoldable pub every : (List ℕ → Option ℕ) → List (List ℕ) → Option (List ℕ)
every f [] = Some []
every f (w ∷ ws) = after (f w) (λ x. option_map (λ xs. x ∷ xs) (every f ws))

unfoldable pub padded : ℕ → List ℕ → List ℕ
padded zero xs = []
padded (suc n) [] = 0 ∷ padded n []
padded (suc n) (x ∷ xs) = x ∷ padded n xs

unfoldable pub keys_of : List (List ℕ) → Option Keys
keys_of ws = option_map (λ ks. record { count = length ks; keys = padded 32 ks }) (every byte ws)

abbrev pub storage_by : StorageKind → List (List ℕ) → Option SetUp
storage_by Plain ws = first decimal (λ n. end (StoragePlain n)) ws
storage_by Keyed ws = option_map StorageKeyed (keys_of ws)
storage_by File ws = option_map (λ n. StorageFile (named n)) (name_of ws)

abbrev pub pack_by : PackKind → List (List ℕ) → Option SetUp
pack_by PlainFile ws = option_map (λ n. PackPlain (named n)) (name_of ws)
pack_by ChainedFile ws = option_map (λ n. PackChained (named n)) (name_of ws)
pack_by FreshPack ws = first decimal (λ n. end (PackFresh n)) ws

abbrev pub defect_of : List (List ℕ) → Option DefectAt
defect_of = first field_kind (λ f. first decimal (λ c. first decimal (λ h. first decimal (λ p. end (record { field = f; cylinder = c; head = h; place = p })))))

abbrev pub set_up_of : SetUpVerb → List (List ℕ) → Option SetUp
set_up_of StorageVerb ws = first storage_kind storage_by ws
set_up_of PackVerb ws = first pack_kind pack_by ws
set_up_of DeviceVerb ws = first byte (λ d. end (Device d)) ws
set_up_of ParityVerb ws = first address (λ a. end (Parity a)) ws
set_up_of UnparityVerb ws = first address (λ a. end (Unparity a)) ws
set_up_of DefectVerb ws = option_map Defect (defect_of ws)
set_up_of UndefectVerb ws = option_map Undefect (defect_of ws)
set_up_of FreshVerb ws = first decimal (λ c. first decimal (λ h. end (Fresh c h))) ws

abbrev pub count_of : ℕ → ℕ → List (List ℕ) → Option Look
count_of a n ws = cond (nat_le n 65536) (end (Words a n) ws) None

abbrev pub look_by : LookKind → List (List ℕ) → Option Look
look_by CardKind ws = end Card ws
look_by StatusKind ws = end Status ws
look_by WordsKind ws = first address (λ a. first decimal (count_of a)) ws
look_by TrackKind ws = first decimal (λ c. first decimal (λ h. end (Track c h))) ws
look_by PlacesKind ws = end Places ws

abbrev pub look_of : List (List ℕ) → Option Look
look_of = first look_kind look_by

abbrev pub line_by : Verb → List (List ℕ) → Option Line
line_by (CallsVerb v) ws = option_map Calls (call_of v ws)
line_by (SetsUpVerb v) ws = option_map SetsUp (set_up_of v ws)
line_by SavesVerb ws = option_map (λ n. Save (named n)) (name_of ws)
line_by ShowsVerb ws = option_map Looks (look_of ws)

-- a first word that begins with `#` makes a comment
unfoldable pub line_of : List (List ℕ) → Option Line
line_of [] = Some Blank
line_of (w ∷ ws) = cond (slice_index w 0 == 35) (Some Blank) (after (verb_of w) (λ v. line_by v ws))

abbrev pub placeless_line : Line → Line
placeless_line Blank = Blank
placeless_line (SetsUp s) = SetsUp (placeless s)
placeless_line (Save n) = Save (named n.now)
placeless_line (Calls c) = Calls c
placeless_line (Looks l) = Looks l
