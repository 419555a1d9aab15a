-- The page round a chart.
use Rattle.std.specs.Prelude.{ℕ, List, ◌++◌, codes}

-- what stands before the chart: a title, how the page looks, and a box for searching
unfoldable pub page_front : List ℕ
page_front =
    codes "<!DOCTYPE html>\n<html lang='en'>\n<meta charset='utf-8'>\n<title>A run of linx_sim</title>\n<style>\nhtml{scroll-padding:130px 0 40px;background:#fff;color:#222}\nbody{margin:0;width:max-content;font:12px ui-monospace,'DejaVu Sans Mono',Menlo,Consolas,monospace}\nheader{position:sticky;top:0;left:0;z-index:1;box-sizing:border-box;width:100vw;height:32px;padding:4px 12px;background:inherit}\nheader input{font:inherit;width:220px;padding:2px 6px;border:1px solid #99a;background:transparent;color:inherit}\nhtml,body,header{background:#fff}\nsvg{display:block}\n.paper{fill:#fff}\n@media(prefers-color-scheme:dark){\nhtml,body,header{background:#14171b;color:#e4e6e8}\n.paper{fill:#14171b}\n}\n</style>\n<header><input placeholder='search: / and Enter' aria-label='search'> <output></output></header>\n"

-- what stands behind the chart: what a click, a search and the part of an address behind # do
unfoldable pub page_back : List ℕ
page_back =
    codes "<script>\nconst svg = document.querySelector('svg');\nconst box = document.querySelector('input');\nconst say = words => document.querySelector('output').textContent = words;\nconst number = (it, name) => +it.getAttribute(name);\nconst rows = [...svg.querySelectorAll('.row')];\nconst words = row => row.querySelector('title').textContent;\n\n// Captions stay above, and lines at the left: each lies on paper of its own, which is moved along.\nfunction stay(items, width, height) {\n  const group = svg.appendChild(document.createElementNS(svg.namespaceURI, 'g'));\n  const paper = group.appendChild(document.createElementNS(svg.namespaceURI, 'rect'));\n  Object.entries({ class: 'paper', width, height }).forEach(it => paper.setAttribute(...it));\n  group.style.pointerEvents = 'none';\n  group.append(...items);\n  return { group, paper };\n}\nconst { width, height } = svg.viewBox.baseVal;\nconst ground = [...svg.querySelectorAll('.node, .lane')].map(it => number(it, 'x'));\nconst lines = stay(svg.querySelectorAll('.line, .effect'), Math.min(width, ...ground) - 8, height);\nconst heads = stay([...svg.querySelectorAll('.back > *')].filter(it => number(it, 'y') > 0 && number(it, 'y') < 66), width, 66);\nfunction move() {\n  const right = Math.max(0, scrollX), down = Math.max(0, scrollY);\n  lines.group.setAttribute('transform', `translate(${right} 0)`);\n  heads.group.setAttribute('transform', `translate(0 ${down})`);\n  lines.paper.style.opacity = right ? 1 : 0;\n  heads.paper.style.opacity = down ? 1 : 0;\n}\naddEventListener('scroll', move);\nmove();\n\n// Rows are tied by the lines that join them: from the row where one begins to that where it ends.\nconst middles = new Map(rows.map(row => [number(row.querySelector('.hit'), 'y') + 9, row]));\nconst ties = new Map(rows.map(row => [row, []]));\nfor (const path of svg.querySelectorAll('.signal, .found, .notice, .queue, .queue-found, .queue-notice')) {\n  const places = path.getAttribute('d').match(/[0-9]+/g);\n  const ends = [places[1], places.at(-1)].map(it => middles.get(+it));\n  if (ends[0] && ends[1] && ends[0] !== ends[1]) {\n    ties.get(ends[0]).push(ends[1]);\n    ties.get(ends[1]).push(ends[0]);\n  }\n}\nlet lit = [];\nfunction light(which) {\n  lit.forEach(row => row.classList.remove('lit'));\n  lit = which;\n  lit.forEach(row => row.classList.add('lit'));\n}\nfunction tied(row) {\n  const found = new Set([row]);\n  for (const one of found) ties.get(one).forEach(other => found.add(other));\n  return rows.filter(it => found.has(it));\n}\nsvg.addEventListener('click', event => {\n  const row = event.target.closest('.row');\n  if (!row) return;\n  light(tied(row));\n  say(lit.length > 1 ? `${lit.length - 1} more belong to this one` : '');\n});\n\n// A search goes from row to row whose line has these words; the part of an address behind # is a row.\nlet hits = [], at = -1;\nfunction show(row) {\n  light([row]);\n  row.scrollIntoView({ block: 'center' });\n}\nbox.addEventListener('input', () => {\n  hits = box.value ? rows.filter(row => words(row).includes(box.value)) : [];\n  at = -1;\n  say(box.value ? `${hits.length} rows` : '');\n});\nbox.addEventListener('keydown', event => {\n  if (event.key !== 'Enter' || !hits.length) return;\n  at = (Math.max(at, event.shiftKey ? 0 : -1) + (event.shiftKey ? hits.length - 1 : 1)) % hits.length;\n  show(hits[at]);\n  say(`${at + 1} of ${hits.length}`);\n});\naddEventListener('keydown', event => {\n  if (event.key !== '/' || event.target === box) return;\n  event.preventDefault();\n  box.focus();\n});\nfunction go() {\n  const row = document.getElementById(location.hash.slice(1));\n  if (row) show(row);\n}\naddEventListener('hashchange', go);\ngo();\n</script>\n</html>\n"

-- THE PAGE round a chart: the chart as it is, between what is the same on each page
abbrev pub page_round : List ℕ → List ℕ
page_round svg = page_front ++ svg ++ page_back
