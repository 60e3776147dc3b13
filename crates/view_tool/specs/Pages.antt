-- A page of a source for whoever assesses it, as HTML: what is proved, the source's files, the summary, the devices, who may do
-- what to whom, and what is inside each domain. Every text of the source stands in it escaped (`view_text`, Html.antt).
use Rattle.std.specs.Prelude.{ℕ, List, [], ◌∷◌, ◌++◌, codes, decimal, length, map}
use Rattle.view_tool.specs.Below.{Named, Policy, Row, Settled, Source, gather, heading, joined, named, table_of, tables_in, tagged, together}
use Rattle.adl_ast.specs.declared.source.SourceFile.{SourceFile}
use Rattle.adl_meaning.specs.declared.flat.Domain.{Domain}
use Rattle.arch_compile.specs.Summary.{summary_of}
use Rattle.arch_compile.specs.declared.summary.Summary.{Summary}
use Rattle.domain_table.specs.declared.table.DomainTables.{DomainTables}
use Rattle.view_tool.specs.declared.page.Page.{Page as Given}
use Rattle.view_tool.specs.Devices.{device_rows}
use Rattle.view_tool.specs.Matrix.{matrix_of}
use Rattle.system_spec.specs.declared.map_line.MapLine.{MapLine}

-- what a page tells of: the path of the root, the source with its flat system and its spec, the settings, the map, the policy,
-- and the notes of the policy's edges
pub record Page : Type 0 where
  pub root : List ℕ
  pub names : Named
  pub settled : Settled
  pub map : List MapLine
  pub policy : Policy
  pub notes : List (List ℕ)

abbrev pub told : Given → Page
told p = record {
  root = p.root.now;
  names = named p.names;
  settled = p.settled.now;
  map = p.map.now;
  policy = p.policy.now;
  notes = p.notes.now;
}

-- ---- the head

abbrev pub style : List ℕ
style = together (
    codes "\n<style>\nbody { font: 15px/1.4 sans-serif; margin: 2em; color: #222 }\n"
    ∷ codes "table { border-collapse: collapse; margin: 1em 0 }\n"
    ∷ codes "caption { text-align: left; font-weight: bold; padding: .3em 0 }\n"
    ∷ codes "td, th { border: 1px solid #bbb; padding: .2em .5em; text-align: left; vertical-align: top }\n"
    ∷ codes "th { background: #eef2f6; font-weight: normal }\n"
    ∷ codes ".wide { overflow: auto; max-height: 90vh }\n"
    ∷ codes ".matrix tr:first-child th { writing-mode: vertical-lr; padding: .5em .2em; position: sticky; top: 0 }\n"
    ∷ codes ".matrix tr:not(:first-child) th { position: sticky; left: 0 }\n"
    ∷ codes "abbr { text-decoration: underline dotted #888; cursor: help }\n"
    ∷ codes "blockquote { border-left: 4px solid #9ab; margin: 1em 0; padding: .2em 1em; background: #f5f7f9 }\n"
    ∷ codes "</style>\n</head>\n<body>\n" ∷ [])

abbrev pub page_start : List ℕ
page_start = codes "<!DOCTYPE html>\n<html lang=\"en\">\n<head>\n<meta charset=\"utf-8\">\n"

abbrev pub page_head : List ℕ → List ℕ
page_head root = ((page_start ++ tagged (codes "title") root) ++ style) ++ tagged (codes "h1") root

-- ---- what is proved

abbrev pub theorem : List ℕ
theorem = together (
    codes "\n<h2>What is proved</h2>\n<blockquote>Where the files' contents are told, <code>compile</code> writes its texts\n"
    ∷ codes "exactly where no fault stands in the source, else names the first; the capDL written, read back, lets threads\n"
    ∷ codes "reach between labels, over every interleaving of steps, exactly what the connectors assign to the unflattened\n"
    ∷ codes "source; and for any texts <code>check</code> says yes only if everything reachable between labels lies in the\n"
    ∷ codes "policy.</blockquote>\n<p>This page is of what <code>camkes compile</code> makes of the source. What stands in\n"
    ∷ codes "each of its tables is a definition, and proved. Proved with "
    ∷ codes "<code>rattle-kit-13f logic dac8208d650f15bf</code>.</p>\n"
    ∷ [])

-- ---- the source's files, and the summary

abbrev pub file_row : SourceFile → Row
file_row f = f.name ∷ decimal (length f.bytes) ∷ []

abbrev pub files_part : Source → List ℕ
files_part source = table_of (codes "Files") (codes "file" ∷ codes "bytes" ∷ []) (map file_row source.files)

abbrev pub summary_row : Summary → Row
summary_row s =
    decimal s.domains ∷ decimal s.threads ∷ decimal s.connections ∷ decimal s.objects ∷ decimal s.capabilities
    ∷ decimal s.edges ∷ []

abbrev pub summary_heads : List (List ℕ)
summary_heads =
    codes "domains" ∷ codes "threads" ∷ codes "connections" ∷ codes "objects" ∷ codes "capabilities" ∷ codes "edges" ∷ []

abbrev pub summary_part : Summary → List ℕ
summary_part s = table_of (codes "Summary") summary_heads (summary_row s ∷ [])

-- ---- devices

abbrev pub device_heads : List (List ℕ)
device_heads = codes "device" ∷ codes "address" ∷ codes "bytes" ∷ codes "interrupt" ∷ []

abbrev pub devices_part : Named → Settled → List ℕ
devices_part n settled = table_of (codes "Devices") device_heads (device_rows n settled)

-- ---- who may do what to whom

abbrev pub matrix_words : List ℕ
matrix_words = together (
    codes "<h2>Who may do what to whom</h2>\n<p>The label of a row may do to the label of a column what stands in the\n"
    ∷ codes "cell. Where the pointer rests on a word, its first reason is shown; where there are more than 2,000 edges,\n"
    ∷ codes "<code>camkes explain</code> tells it.</p>\n<div class=\"wide\">\n" ∷ [])

abbrev pub matrix_part : Policy → List (List ℕ) → List ℕ
matrix_part policy notes = (matrix_words ++ matrix_of policy notes) ++ codes "</div>\n"

-- ---- domains

abbrev pub slot_heads : List (List ℕ)
slot_heads = codes "slot" ∷ codes "object" ∷ codes "rights" ∷ codes "badge" ∷ codes "of" ∷ []

abbrev pub thread_heads : List (List ℕ)
thread_heads = codes "thread" ∷ codes "object" ∷ codes "entry" ∷ codes "stack" ∷ codes "buffer" ∷ []

abbrev pub window_heads : List (List ℕ)
window_heads = codes "window" ∷ codes "address" ∷ codes "bytes" ∷ []

abbrev pub page_heads : List (List ℕ)
page_heads = codes "page" ∷ codes "frame" ∷ codes "rights" ∷ codes "holds" ∷ []

abbrev pub tables_part : DomainTables → List ℕ
tables_part t =
    ((table_of (codes "Slots") slot_heads t.slots ++ table_of (codes "Threads") thread_heads t.threads)
    ++ table_of (codes "Windows") window_heads t.windows)
    ++ table_of (codes "Pages") page_heads t.pages

-- of domain number d, under its label
abbrev pub domain_part : Named → List MapLine → ℕ → Domain → List ℕ
domain_part n lines d x = tagged (codes "h3") (heading n d (joined x.path)) ++ tables_part (tables_in n lines d)

abbrev pub domain_parts : Named → List MapLine → List ℕ
domain_parts n lines = gather (domain_part n lines) n.flat.domains

-- ---- all

abbrev pub page_text : Page → List ℕ
page_text p =
    (((((((page_head p.root ++ theorem) ++ files_part p.names.source)
    ++ summary_part (summary_of p.names.flat p.names.spec p.policy.edges))
    ++ devices_part p.names p.settled) ++ matrix_part p.policy p.notes) ++ codes "<h2>Domains</h2>\n")
    ++ domain_parts p.names p.map) ++ codes "</body>\n</html>\n"
